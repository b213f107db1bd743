pub mod Class
pub mod Cut
pub mod Name
pub mod Spans
pub mod Parts
pub mod Readers
