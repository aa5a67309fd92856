pub mod Accepted
pub mod Bundle
pub mod Generated
pub mod Modules
pub mod Numbers
pub mod Packets
