pub mod Puttings
pub mod Passes
