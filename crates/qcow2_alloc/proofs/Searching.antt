-- Searching for free clusters.
pub mod RunsInSearch
pub mod FreeClusters
pub mod SearchesBeforeCounts
pub mod SearchSequences
pub mod RunSearches
pub mod FreeClusterSearches
pub mod BlockPlaceSearches
