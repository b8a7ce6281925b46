pub mod Finishes
pub mod Judgements
pub mod Spots
pub mod Stops
