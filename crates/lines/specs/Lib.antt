pub mod Admit
pub mod Counts
pub mod Data
pub mod Lines
