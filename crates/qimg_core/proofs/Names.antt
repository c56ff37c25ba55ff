-- The references to each cluster, in cells and lists.
pub mod Clusters
pub mod Entries
pub mod Ranges
pub mod Searches
