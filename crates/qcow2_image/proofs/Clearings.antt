-- Lemmas on zeroes and discards of whole guest clusters.
pub mod WholeParts
pub mod TableClears
pub mod PartClears
pub mod RangeClears
pub mod IdleParts
pub mod RefusedParts
pub mod ClearedDisk
pub mod PartEffects
pub mod RangeEffects
