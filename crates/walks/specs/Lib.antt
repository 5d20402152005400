pub mod Courses
pub mod Traces
pub mod Ways
