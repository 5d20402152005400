pub mod Tries
pub mod Queries
pub mod Tables
