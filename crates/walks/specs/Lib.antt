pub mod Words
pub mod Sheets
pub mod Places
pub mod Examples
