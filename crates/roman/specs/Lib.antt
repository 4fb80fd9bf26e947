pub mod Roman
