mod Added
mod Answers
mod Entered
mod Filled
mod Named
pub mod OddsLemmas
mod Served
mod Steps
