pub mod Words
pub mod Cardinal
pub mod Ordinal
pub mod Value
pub mod Walk
pub mod FirstDigits
pub mod Held
