pub mod Trace
pub mod Said
