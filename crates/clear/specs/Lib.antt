pub mod Clear
pub mod Test
