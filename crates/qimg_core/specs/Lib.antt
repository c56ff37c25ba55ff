pub mod Plain
pub mod Names
pub mod Searches
pub mod CheckParts
pub mod Entering
pub mod Check
