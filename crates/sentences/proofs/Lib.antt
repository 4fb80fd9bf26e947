pub mod Kept
pub mod StepTexts
pub mod Steps
pub mod Marking
pub mod Starts
pub mod After
