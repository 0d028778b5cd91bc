pub mod Crashes
pub mod Earlier
pub mod Growth
pub mod Kept
