pub mod StatementLemmas
pub mod PlaceLemmas
pub mod NameLemmas
pub mod StatementCounts
pub mod CutLemmas
pub mod AppendLemmas
