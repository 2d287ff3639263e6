-- Over any type: locals, loops and calls; rows and references that are lent. Over records: `Lent`.
pub mod Walk
pub mod Plain
pub mod While
pub mod Calling
pub mod Again
pub mod Own
pub mod Rows
pub mod Lent
