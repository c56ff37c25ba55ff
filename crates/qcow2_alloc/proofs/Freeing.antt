-- Decrementing the refcounts of the clusters on the free list.
pub mod Lists
pub mod ClusterOccurrences
pub mod ClusterFrees
pub mod ShorterLists
pub mod EntryFrees
pub mod LoweredCounters
pub mod Lowerings
pub mod FreesInTurn
pub mod ListRemainders
