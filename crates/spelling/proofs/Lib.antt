pub mod Rest
pub mod Again
