pub mod Json
pub mod Named
pub mod Runs
pub mod Verdicts
pub mod Explored
