-- Lemmas on the worked image and on changed copies of it.
pub mod Consistent
pub mod Counts
pub mod Disk
pub mod False
pub mod Growth
pub mod Header
pub mod Headers
pub mod Leak6
pub mod Leak9
pub mod More
pub mod Packed
pub mod Steps
pub mod Tables
pub mod Under
pub mod Verdicts
pub mod Whole
