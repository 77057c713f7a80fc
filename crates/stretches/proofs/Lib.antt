pub mod Laws
pub mod Marked
pub mod Cases
