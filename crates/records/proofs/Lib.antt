pub mod Named
pub mod Framing
