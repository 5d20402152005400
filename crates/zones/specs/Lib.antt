pub mod Sorted
pub mod Valid
pub mod Cuts
pub mod Zones
