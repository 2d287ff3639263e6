pub mod Flush
pub mod Lent
