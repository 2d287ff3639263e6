pub mod Fours
pub mod Again
pub mod Beside
pub mod Whole
