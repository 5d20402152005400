mod Courses
mod Going
pub mod Traced
