pub mod Polls
pub mod Pairs
pub mod Scripts
pub mod Histories
pub mod Words
pub mod Phases
pub mod Sets
pub mod Counts
