pub mod Bytes
pub mod Classes
pub mod Recur
pub mod LittleEndian
