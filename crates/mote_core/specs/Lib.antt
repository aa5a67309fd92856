pub mod Exact
pub mod Rows
pub mod Seen
pub mod Value
