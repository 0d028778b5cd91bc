pub mod Steps
pub mod Rules
pub mod Parts
pub mod History
pub mod Holds
