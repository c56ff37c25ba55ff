-- Tables whose entries past the end of the file aren't loaded.
pub mod BlockPlaces
pub mod FewerWords
pub mod L2Words
pub mod Places
pub mod TablePlaces
pub mod Tests
