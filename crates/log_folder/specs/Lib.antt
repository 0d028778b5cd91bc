pub mod Calls
pub mod Disk
pub mod Folder
pub mod Names
