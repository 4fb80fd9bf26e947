pub mod LetterLaws
pub mod Room
pub mod Characters
