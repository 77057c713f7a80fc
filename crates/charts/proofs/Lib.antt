pub mod Laws
pub mod Rows
pub mod First
pub mod Joined
pub mod Lines
pub mod Says
pub mod Parts
