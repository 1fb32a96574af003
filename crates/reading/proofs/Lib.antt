-- The laws of reading.
pub mod Inner
pub mod Asks
pub mod Results
pub mod Outcomes
pub mod Plain
