pub mod Points
pub mod Boxes
pub mod Nets
