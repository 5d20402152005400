pub mod Finding
pub mod Rules
pub mod Saying
pub mod Table
pub mod Carried
