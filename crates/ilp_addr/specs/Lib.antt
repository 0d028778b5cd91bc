pub mod Address
pub mod OwnAddress
pub mod Segments
pub mod Target
pub mod Timestamp
pub mod Laws
