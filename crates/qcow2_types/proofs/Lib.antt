pub mod Numbers
pub mod Fields
pub mod Counting
pub mod Changes
pub mod Switching
pub mod Showing
pub mod Worked
