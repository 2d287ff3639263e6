pub mod Readings
pub mod Endings
pub mod Settled
