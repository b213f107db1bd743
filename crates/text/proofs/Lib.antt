pub mod Classes
pub mod Cuts
pub mod Joins
pub mod Yielding
