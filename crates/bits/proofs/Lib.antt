-- The facts on one number's binary digits, and the marks' laws on them.
pub mod Digits
pub mod Laws
