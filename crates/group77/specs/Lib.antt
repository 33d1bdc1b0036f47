pub mod Symbol
pub mod Grouping
pub mod Groups
pub mod Building
pub mod BuilderViews
