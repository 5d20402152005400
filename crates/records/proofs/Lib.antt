mod Measured
pub mod Weighed
