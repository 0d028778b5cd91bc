pub mod Results
pub mod Lengths
pub mod Octets
pub mod Numbers
pub mod Overwriting
pub mod Shortest
pub mod Fronts
