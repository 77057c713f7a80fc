pub mod Faults
pub mod Spans
pub mod Facts
