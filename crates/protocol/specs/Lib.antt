pub mod Lists
pub mod Words
pub mod World
pub mod History
pub mod Walks
pub mod Promise
pub mod Cases
