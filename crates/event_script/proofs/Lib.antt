mod Cuts
mod FirstLaw
mod Pairs
mod Ranges
mod Spelling
mod Steps
pub mod Times
mod Words
