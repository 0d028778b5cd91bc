pub mod Loggable
pub mod Noted
pub mod Writer
pub mod Written
