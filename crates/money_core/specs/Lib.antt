pub mod Fraction
pub mod Price
pub mod Account
pub mod PurseKept
