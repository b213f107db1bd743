pub mod Rewritten
pub mod Refilled
