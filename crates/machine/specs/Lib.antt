pub mod Store
pub mod Machine
pub mod Refine
pub mod Live
pub mod Bounds
