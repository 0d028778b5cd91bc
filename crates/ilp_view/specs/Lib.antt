pub mod Packet
pub mod Reading
pub mod Seen
pub mod Lent
pub mod Places
pub mod Below
