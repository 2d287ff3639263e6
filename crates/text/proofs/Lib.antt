pub mod Laws
pub mod Backwards
