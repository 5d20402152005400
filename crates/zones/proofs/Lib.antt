mod Picked
mod Places
mod ByPlace
mod Beside
mod Canonical
mod Topmost
mod Narrow
pub mod Insert
mod OneMore
mod Spoken
mod Clashing
mod Added
