pub mod Laws
pub mod Passes
pub mod Sorting
pub mod Reports
pub mod Stations
pub mod Finest
