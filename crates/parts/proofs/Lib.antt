-- What the proofs share, and those of other crates.
pub mod InRows
pub mod Lent
mod Beside
