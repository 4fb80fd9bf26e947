pub mod YearLaws
pub mod Room
