pub mod Runs
pub mod Cut
mod Numbers
