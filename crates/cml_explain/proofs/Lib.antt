pub mod OptionLemmas
pub mod PieceLemmas
pub mod StandLemmas
pub mod LetLemmas
pub mod NearLemmas
pub mod TextLemmas
