pub mod Bytes
pub mod Events
pub mod FileState
pub mod MemoryFile
pub mod Notes
pub mod OsFile
