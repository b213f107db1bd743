pub mod Faults
pub mod Answers
pub mod Law
pub mod Replayers
pub mod Words
pub mod Sentences
