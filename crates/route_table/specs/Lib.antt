pub mod Hops
pub mod Routes
pub mod Paths
pub mod Nodes
pub mod Children
pub mod Kept
pub mod Within
pub mod Listing
