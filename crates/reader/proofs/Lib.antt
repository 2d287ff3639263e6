mod Places
pub mod Scripts
