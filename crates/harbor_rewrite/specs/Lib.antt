pub mod Emit
pub mod Rewritten
pub mod Errors
