pub mod Going
pub mod Whole
pub mod Printed
pub mod Answers
pub mod Shown
