pub mod Kinds
pub mod Faults
pub mod Making
pub mod Made
pub mod Ways
pub mod Pars
