pub mod Clocks
pub mod Having
pub mod Meanings
pub mod Owning
pub mod Packets
