mod Owned
mod Nearest
mod Meant
