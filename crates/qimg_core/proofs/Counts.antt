-- Refcounts compared with references, and the verdict.
pub mod Blocks
pub mod Comparison
pub mod Verdicts
