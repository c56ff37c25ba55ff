pub mod Layering
pub mod Bases
pub mod OnFiles
pub mod Putting
pub mod ListsDriven
