pub mod Rows
pub mod Sound
pub mod Admission
pub mod Calling
pub mod Lending
pub mod Tables
pub mod Values
pub mod Mail
