-- Lemmas on the image after a request that changes one table, one block or one cluster.
pub mod BlockSteps
pub mod BlockWordSteps
pub mod DataSteps
pub mod DataWrites
pub mod Frames
pub mod Over
pub mod Patches
pub mod SlotSteps
pub mod Stops
pub mod TableReplaces
pub mod TableRewrites
pub mod TableSteps
pub mod TableWrites
pub mod WriteBack
