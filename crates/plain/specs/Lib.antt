-- The plain file of a list, and what the theorems on it say.
pub mod Bytes
pub mod Reading
pub mod Faults
pub mod Demand
pub mod inner
