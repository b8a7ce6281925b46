pub mod RowLemmas
pub mod OfferLemmas
pub mod PickLemmas
pub mod QuestionLemmas
pub mod ReplyLemmas
pub mod SessionLemmas
