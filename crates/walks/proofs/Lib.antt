pub mod Laws
pub mod Walks
pub mod Charts
pub mod Examples
