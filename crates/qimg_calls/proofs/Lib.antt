-- Lemmas.
mod EarlyEnds
mod Leading
mod Moving
mod Repaired
mod CommittedDown
mod Resizing
mod Spending
mod Committing
mod Copying
pub mod Alone
pub mod SameChains
mod Lists
mod Failed
mod Driven
pub mod Stops
mod Standing
