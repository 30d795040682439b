pub mod Places
pub mod Questions
pub mod Search
