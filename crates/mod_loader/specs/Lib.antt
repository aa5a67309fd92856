pub mod Banks
pub mod Listed
pub mod Loads
