-- The lemmas of the laws of taking back and of packing, and what the parts of the code say of one step.
pub mod Accepted
pub mod Apart
pub mod Carried
pub mod Fits
pub mod Packed
pub mod Parts
pub mod Passed
pub mod Plans
pub mod Restored
pub mod Stages
pub mod Steps
pub mod Undone
pub mod Units
pub mod Wrote
