pub mod AtC
