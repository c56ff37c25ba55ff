-- The references of the parts of an image.
pub mod Image
pub mod L2Table
pub mod L2Tables
pub mod Places
pub mod TableList
pub mod Words
