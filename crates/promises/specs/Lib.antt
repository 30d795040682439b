pub mod Asked
pub mod Coincide
pub mod Events
