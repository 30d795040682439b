pub mod Loads
pub mod ByRecord
pub mod Sound
