pub mod Between
pub mod Descents
pub mod Holes
pub mod Joins
pub mod Mends
pub mod Purged
