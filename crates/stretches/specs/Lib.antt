pub mod Stretches
pub mod Cases
