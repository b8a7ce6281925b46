pub mod Typings
pub mod Picks
pub mod Offers
pub mod Questions
pub mod Replies
pub mod Steppers
pub mod Sessions
