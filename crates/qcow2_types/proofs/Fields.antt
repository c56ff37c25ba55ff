-- Lemmas on the fields of a header and their bytes.
pub mod HeaderFields
pub mod HeaderFrame
pub mod HeaderLimits
pub mod HeaderParts
