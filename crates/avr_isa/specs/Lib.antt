pub mod Decoded
pub mod FirstWord
pub mod Laws
pub mod Operands
pub mod Pattern
pub mod Place
pub mod Table
