pub mod FileLemmas
pub mod Named
mod Pairs
pub mod Puts
pub mod SoFar
pub mod WordLemmas
