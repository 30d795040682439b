pub mod Bytes
pub mod Parts
pub mod Chains
pub mod Putting
pub mod Saying
pub mod Saves
pub mod Restores
pub mod ReadBack
