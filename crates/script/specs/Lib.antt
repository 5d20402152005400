pub mod Grammar
pub mod Commands
pub mod Laws
