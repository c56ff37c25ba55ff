-- Growing and moving the refcount table.
pub mod TableLoads
pub mod TableSwitches
pub mod LongerReftables
pub mod GrowthInOrder
pub mod RoomSearches
pub mod RoomSearchProgress
pub mod FirstRooms
pub mod RoomAcquisition
pub mod TableMoves
pub mod RoomSwitches
pub mod CopyPlaces
pub mod TableGrowth
pub mod FillRefusals
pub mod CopyWrites
pub mod RoomFills
