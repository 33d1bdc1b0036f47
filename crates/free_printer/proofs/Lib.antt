pub mod Joining
pub mod Lists
pub mod Arguments
pub mod Rooms
pub mod UnitTexts
