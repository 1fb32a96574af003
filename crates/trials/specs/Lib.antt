-- A write as one loop over blocks that are tried, each given a list of bytes.
pub mod Steps
pub mod Trial
pub mod Loop
