pub mod Splitting
pub mod Joining
pub mod Joinings
pub mod TransferLaws
pub mod Sent
