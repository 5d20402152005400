pub mod Lines
pub mod Classes
