pub mod Given
pub mod Working
