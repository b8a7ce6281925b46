pub mod Desks
pub mod Finds
pub mod Held
pub mod Lines
pub mod Marks
pub mod Picks
pub mod Seen
pub mod Works
