-- What only the contracts of inner functions and the laws cite.
pub mod Bounds
