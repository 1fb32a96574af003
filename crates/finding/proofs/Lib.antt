-- The laws of the runs of blocks that a read finds.
pub mod Parts
pub mod Gathers
pub mod Runs
pub mod Positions
pub mod Answers
