pub mod Tables
pub mod Growing
pub mod Loading
pub mod Putting
pub mod Stepping
pub mod Sounds
pub mod SoundSays
