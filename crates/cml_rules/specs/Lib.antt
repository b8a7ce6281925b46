pub mod Rules
pub mod Places
pub mod Laws
pub mod Firing
pub mod Runs
pub mod Acts
pub mod Turns
pub mod Waiting
