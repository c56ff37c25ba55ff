pub mod Values
pub mod Words
pub mod Data
pub mod Advancing
pub mod NewTables
pub mod LongerL1
pub mod Sizes
pub mod SmallestImage
