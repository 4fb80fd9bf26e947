pub mod Compare
pub mod Read
pub mod Room
