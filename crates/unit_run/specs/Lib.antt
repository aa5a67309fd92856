pub mod PlainUnits
pub mod PlainLaw
pub mod Ways
pub mod FlashRunners
pub mod FlashLaw
