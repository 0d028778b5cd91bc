pub mod Matching
pub mod BestRoute
pub mod PathLemmas
pub mod NodeLemmas
pub mod Places
pub mod Rekeyed
pub mod BestAtPath
pub mod Named
pub mod Included
mod Listed
mod AllListed
