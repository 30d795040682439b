pub mod Places
pub mod Twice
pub mod Covering
pub mod Searching
pub mod Asking
