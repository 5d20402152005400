pub mod Resolvers
pub mod Draws
pub mod Hears
pub mod Runs
