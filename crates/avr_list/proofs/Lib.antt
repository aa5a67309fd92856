pub mod Held
pub mod Unsealed
pub mod Said
pub mod Ranged
pub mod Named
pub mod Joined
pub mod Telling
