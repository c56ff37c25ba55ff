-- The results of plain reads.
pub mod Files
pub mod Image
pub mod Pieces
pub mod Tables
