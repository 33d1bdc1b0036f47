pub mod Goodness
pub mod Reading
pub mod Laws
pub mod Views
pub mod Look
pub mod Whole
pub mod Words
pub mod Leaf
