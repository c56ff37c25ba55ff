-- Lemmas on preparations: the guest clusters that a range covers, the clusters that are reserved, and the mapping that is held.
pub mod RunPreparations
pub mod FreshRuns
pub mod RangeRuns
pub mod Reservations
pub mod DriverPreparations
pub mod PlaceContents
pub mod ContentCopies
