pub mod SetPieces
