pub mod Unfolded
pub mod Witness
pub mod Edges
pub mod Examples
