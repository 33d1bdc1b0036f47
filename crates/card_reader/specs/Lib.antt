pub mod Deck
pub mod Scan
pub mod CardsError
pub mod Fault
pub mod Check
pub mod Reader
