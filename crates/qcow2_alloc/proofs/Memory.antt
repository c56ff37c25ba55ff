-- The image in memory: cached tables and blocks over the file.
pub mod EntryKinds
pub mod Patches
pub mod MemoryWords
pub mod SafeLaws
pub mod MemoryImage
pub mod EntryChanges
pub mod CounterChanges
pub mod WordChanges
pub mod NameDrops
pub mod FittingWords
pub mod KeptWords
pub mod FreeClusterWrites
pub mod StructureWrites
