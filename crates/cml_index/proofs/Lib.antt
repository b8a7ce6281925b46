mod Walks
mod Parted
mod Lit
mod Going
pub mod Scopes
mod Pairs
mod Receivers
pub mod Waits
mod OneLeaf
mod Seeking
mod Others
mod Kept
mod Beside
mod Counted
mod Forgotten
mod InPlace
mod Stood
mod Spots
mod Flagged
mod Objects
mod OneObject
mod Seated
mod OwnSeat
mod Crossed
mod Summed
mod KeptHeads
mod Alone
