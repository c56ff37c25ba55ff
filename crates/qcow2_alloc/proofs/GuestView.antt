-- Calls that leave the guest unchanged.
pub mod ShownDisks
pub mod QuietFlushes
pub mod QuietSequences
pub mod QuietCounters
pub mod QuietEntries
pub mod QuietAnnouncements
pub mod SingleRequests
pub mod QuietPremises
pub mod QuietNames
