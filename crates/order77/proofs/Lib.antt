pub mod StandingLemmas
pub mod UseLemmas
pub mod NameLemmas
pub mod Readings
pub mod NamingLemmas
pub mod SettlingLemmas
pub mod SettledEach
