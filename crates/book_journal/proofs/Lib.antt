mod Addressed
mod AllSound
mod Putting
mod SpoiltStays
mod Visited
