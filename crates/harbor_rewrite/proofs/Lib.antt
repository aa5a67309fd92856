pub mod Emission
pub mod Joining
pub mod Entries
pub mod Images
