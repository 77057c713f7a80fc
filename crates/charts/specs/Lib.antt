pub mod Charts
pub mod Found
pub mod Answers
