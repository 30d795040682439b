pub mod Made
pub mod Answers
pub mod Sequences
