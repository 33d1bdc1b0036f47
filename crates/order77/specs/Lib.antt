pub mod Counts
pub mod Names
pub mod Keywords
pub mod Settling
pub mod ReadViews
pub mod Naming
pub mod Standings
pub mod NameSets
