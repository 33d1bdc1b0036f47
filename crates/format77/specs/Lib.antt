pub mod Reading
pub mod Rows
pub mod Views
pub mod TextReading
pub mod Parts
pub mod State
