pub mod Law
pub mod Text
