pub mod Regions
pub mod Reports
pub mod Stations
