pub mod Places
pub mod Nearby
pub mod Goes
pub mod Rework
pub mod Puts
pub mod Opens
pub mod Evaluated
