pub mod Layers
pub mod Lists
pub mod Checks
