pub mod Rest
pub mod Round
pub mod Taken
