pub mod FlashValue
pub mod Entries
pub mod WordRun
pub mod Telling
pub mod CanRun
pub mod Writing
pub mod Laws
