pub mod Leading
pub mod NothingHeld
