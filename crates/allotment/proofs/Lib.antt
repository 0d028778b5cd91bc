pub mod Alone
pub mod Owed
pub mod Queue
pub mod Turns
