pub mod Calls
pub mod Names
pub mod Tables
pub mod Contents
pub mod Counts
pub mod PlainReads
