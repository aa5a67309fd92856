pub mod Banks
pub mod Prepared
