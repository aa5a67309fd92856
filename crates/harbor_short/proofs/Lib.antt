pub mod Shorter
pub mod Distances
pub mod Kept
pub mod Chosen
pub mod Ends
pub mod Measured
pub mod Turning
