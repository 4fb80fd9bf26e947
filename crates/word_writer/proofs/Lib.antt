pub mod Finish
pub mod Saying
pub mod ReadBack
