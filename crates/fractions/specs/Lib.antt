pub mod Fraction
pub mod Walk
