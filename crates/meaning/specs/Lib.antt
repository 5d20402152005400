pub mod Model
pub mod Says
pub mod Speech
pub mod Laws
pub mod Cases
pub mod Transfer
