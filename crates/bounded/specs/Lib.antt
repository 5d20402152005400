pub mod Lends
