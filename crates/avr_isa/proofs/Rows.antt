pub mod Registers
pub mod Constants
pub mod Memory
pub mod Single
pub mod Jumps
pub mod Bits
