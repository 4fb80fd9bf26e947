pub mod Real
pub mod Walk
