pub mod Finding
pub mod Gathering
pub mod Lawful
pub mod OnlyWritten
pub mod Places
pub mod ReadBack
pub mod Soundness
