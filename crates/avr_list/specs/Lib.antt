pub mod Operands
pub mod Instructions
pub mod Lines
pub mod Laws
pub mod Widths
