pub mod Wrong
pub mod Breaks
