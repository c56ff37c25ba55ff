-- The definitions that contracts cite.
pub mod Since
pub mod Calls
pub mod Held
pub mod Repairing
pub mod CommittingDown
pub mod Leading
pub mod Moves
pub mod RoomTaken
pub mod Marking
pub mod Making
pub mod Runs
pub mod Flattening
