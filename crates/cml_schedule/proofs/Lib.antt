mod Readings
mod Letters
mod Phrases
mod WrittenLemmas
mod Threads
mod Rows
