pub mod Leading
pub mod Seats
