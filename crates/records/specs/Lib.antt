pub mod Numbers
pub mod Contents
pub mod Sets
