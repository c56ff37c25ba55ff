pub mod Clusters
pub mod Homes
pub mod Drivers
