-- The laws of a write as one loop.
pub mod Series
pub mod Laws
pub mod Falls
mod Examples
