pub mod Images
pub mod Parts
