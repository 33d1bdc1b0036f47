pub mod Tree
pub mod Typing
pub mod Layout
pub mod Meaning
pub mod Built
pub mod Plain
pub mod Source
pub mod SourceReading
