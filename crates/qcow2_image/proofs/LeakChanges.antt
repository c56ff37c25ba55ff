-- Lemmas on the leaks of an image after commits, and after refcounts that were too high are lowered.
pub mod CommitLeaks
pub mod ListedLeaks
pub mod LoweredCounts
