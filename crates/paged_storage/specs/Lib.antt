pub mod Pages
pub mod PagedFiles
pub mod Replaying
pub mod PagedStorage
