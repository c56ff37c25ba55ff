pub mod Shown
pub mod Agreed
pub mod Requesting
pub mod Windows
pub mod Following
pub mod Putting
pub mod Renewing
