pub mod Targets
pub mod Cells
pub mod Placing
pub mod Meaning
