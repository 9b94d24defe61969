pub mod Uses
pub mod Broken
