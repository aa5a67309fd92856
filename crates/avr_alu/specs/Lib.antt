pub mod Bits
pub mod Flags
pub mod Signed
pub mod Sum
pub mod Logic
pub mod One
pub mod Mul
pub mod Word
