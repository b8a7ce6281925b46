pub mod FinishLemmas
pub mod JudgementLemmas
pub mod LineLemmas
pub mod GrowLemmas
pub mod SpotLemmas
pub mod PastLemmas
pub mod StopLemmas
