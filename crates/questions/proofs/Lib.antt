mod Finding
mod Counting
