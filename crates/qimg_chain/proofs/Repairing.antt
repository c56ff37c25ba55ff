-- Lemmas on the repair of leaks: a qcow2 image, an image of any format, and the leaks as pairs.
pub mod Images
pub mod ListedExcess
pub mod Steps
pub mod Through
