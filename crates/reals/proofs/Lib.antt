pub mod RealLaws
pub mod PartLaws
pub mod Room
