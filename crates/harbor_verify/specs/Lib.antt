pub mod Conditions
pub mod Decoding
pub mod Law
pub mod Parts
pub mod Reading
pub mod Resolved
pub mod Verdict
pub mod Walks
