pub mod Addresses
pub mod Configurations
pub mod Digest
pub mod Writes
