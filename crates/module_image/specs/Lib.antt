pub mod Contents
pub mod Laws
pub mod Links
pub mod Reading
pub mod Refusal
pub mod Spelling
