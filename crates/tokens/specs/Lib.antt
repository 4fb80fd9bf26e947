pub mod Tokens
pub mod Table
pub mod Peeled
pub mod Left
