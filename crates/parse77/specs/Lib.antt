pub mod ControlParts
pub mod Reading
pub mod Sort
pub mod Statement
pub mod Views
