-- What only the contracts of inner functions and the laws cite.
pub mod Forms
pub mod Bounds
pub mod Runs
pub mod Held
