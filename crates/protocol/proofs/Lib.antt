pub mod Lists
pub mod Words
pub mod Force
pub mod Inv
pub mod Steps
mod History
pub mod Walks
pub mod Settled
pub mod Fetch
pub mod Live
pub mod Hearing
mod Exact
mod Table
pub mod Main
