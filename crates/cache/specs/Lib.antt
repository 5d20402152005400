pub mod Entries
pub mod Flags
pub mod Hashes
pub mod Hints
pub mod Indexes
pub mod Caches
