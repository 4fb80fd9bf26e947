pub mod Year
pub mod Walk
