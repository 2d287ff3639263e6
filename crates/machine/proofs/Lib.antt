pub mod Whole
pub mod Caller
