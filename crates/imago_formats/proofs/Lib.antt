pub mod RawSteps
pub mod RawWrites
pub mod Growing
mod WordLemmas
pub mod LineLemmas
mod LineOrder
mod ExtentLines
mod SettingLines
mod RefusedLines
mod WorkedDescriptors
mod FileLemmas
mod ExtentLemmas
pub mod OpeningLemmas
pub mod SaidFaults
pub mod StorageLemmas
pub mod Quiet
pub mod VmdkSteps
