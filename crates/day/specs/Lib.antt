pub mod Replay
pub mod Cost
pub mod Ends
pub mod Counted
