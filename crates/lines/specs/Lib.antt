pub mod Room
pub mod Stepping
pub mod Turning
