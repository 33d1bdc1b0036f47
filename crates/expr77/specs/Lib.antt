pub mod LexemeReading
pub mod Gathering
pub mod Outcome
pub mod Parsing
pub mod Views
pub mod Constants
