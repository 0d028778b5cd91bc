pub mod Splits
pub mod Decimals
pub mod Tables
pub mod BigEndian
pub mod Ordered
