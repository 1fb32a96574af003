-- The lookups of a write as its inner functions go about them.
pub mod Lookups
