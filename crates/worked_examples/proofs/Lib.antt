pub mod Rows
pub mod Opened
pub mod LazyPieces
pub mod LazyReading
pub mod Outcomes
pub mod Carried
