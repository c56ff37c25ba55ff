-- If enough space is free, an allocation finds it.
pub mod RoomConsumption
pub mod RoomToGrow
pub mod SizesOfSpace
pub mod RoomPerTurn
pub mod GaplessRuns
pub mod RoomyRuns
