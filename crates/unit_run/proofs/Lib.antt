pub mod Addresses
pub mod Inside
pub mod Rising
pub mod Placing
pub mod Beginning
pub mod Rounds
