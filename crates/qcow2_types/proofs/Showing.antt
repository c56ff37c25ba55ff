-- Lemmas on the bytes that the guest reads.
pub mod ShownLemmas
pub mod Shows
pub mod Values
