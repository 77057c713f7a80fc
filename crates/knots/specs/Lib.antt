pub mod Knots
