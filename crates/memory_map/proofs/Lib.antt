pub mod Bytes
pub mod Loops
pub mod OneList
pub mod Telling
