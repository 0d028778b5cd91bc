pub mod Client
pub mod Seen
pub mod Request
pub mod Answer
pub mod Laws
pub mod Below
