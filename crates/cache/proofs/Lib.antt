mod Places
mod Recalled
pub mod Soonest
mod Storing
mod Stirring
mod Hinting
mod Looking
mod Covering
