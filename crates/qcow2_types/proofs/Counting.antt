-- Lemmas on references and refcounts of clusters, and on whole images.
pub mod Bounded
pub mod Consistent
pub mod Counters
pub mod Either
pub mod Leaks
pub mod Limit
pub mod Named
pub mod OneVerdict
pub mod Parts
pub mod Slots
pub mod Sound
pub mod TableSizes
pub mod Views
