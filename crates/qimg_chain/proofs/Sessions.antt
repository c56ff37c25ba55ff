-- A list of calls on opened files as calls of one flat disk.
pub mod Checked
pub mod Closed
pub mod Committed
pub mod Driving
pub mod FilesBelow
pub mod Flat
pub mod Moments
pub mod OpenedAgain
pub mod Readings
pub mod Saved
pub mod Scripts
pub mod Whole
