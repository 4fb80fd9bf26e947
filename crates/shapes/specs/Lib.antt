pub mod Shapes
pub mod Times
pub mod Grammar
