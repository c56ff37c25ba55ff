-- Lemmas on numbers and on the bytes that spell them.
pub mod BlockBytes
pub mod BytesLemmas
pub mod Digits
pub mod HeldBytes
pub mod NumberBytes
pub mod Reach
pub mod Splices
pub mod Sums
pub mod WordLemmas
