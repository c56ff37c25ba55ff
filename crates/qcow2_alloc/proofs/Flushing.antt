-- Flushing cached tables and blocks, in the set order.
pub mod Turns
pub mod EntryWriteBacks
pub mod TableWriteBacks
pub mod BlockWriteBacks
pub mod WriteSequences
pub mod FaultlessCalls
pub mod EntryFlushes
pub mod TableFlushes
pub mod BlockFlushes
pub mod OrderAnnouncements
pub mod FlushRefusals
pub mod EntriesAfterWrites
