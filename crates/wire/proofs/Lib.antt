mod Cutting
mod Shaping
mod Putting
mod Copying
mod Telling
mod Front
mod Upper
mod Texting
mod Sizes
mod Backs
mod Undone
mod Naming
mod Partly
pub mod Keeping
mod Sending
mod PartBacks
mod PartUndone
mod Laws
