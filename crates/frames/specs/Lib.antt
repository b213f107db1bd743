pub mod Rules
pub mod Calls
pub mod Related
pub mod Theorems
pub mod Worked
pub mod Reworked
pub mod Place
