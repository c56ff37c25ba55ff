-- Lemmas on headers that are switched to another table or another disk size.
pub mod HeaderSwitch
pub mod L1Switch
pub mod RefcountTableSwitch
pub mod SizeSwitch
pub mod Switches
