pub mod RomanLaws
pub mod Standard
