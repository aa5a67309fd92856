pub mod Fields
pub mod Images
pub mod Loop
pub mod PartLemmas
pub mod PartReaders
pub mod Readers
pub mod Refusals
pub mod Written
