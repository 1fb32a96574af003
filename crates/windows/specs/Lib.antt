-- The words in which the theorems about windows are stated.
pub mod Space
