mod Pieces
pub mod Proper
pub mod Laws
pub mod Iterating
mod Splitting
pub mod SameItems
mod Push
mod Parent
pub mod Within
pub mod Order
pub mod Fronts
mod Pieced
pub mod Extend
pub mod Readings
mod Shown
mod Writing
pub mod RoundTrip
pub mod Cutting
pub mod Appending
mod Faults
