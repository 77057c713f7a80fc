pub mod Laws
pub mod Admitted
pub mod Data
