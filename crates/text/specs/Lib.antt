pub mod Text
pub mod Buffer
pub mod Page
