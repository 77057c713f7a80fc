pub mod Floats
pub mod Vectors
pub mod Sizes
pub mod Stations
