-- The laws of the saved form.
pub mod Examples
pub mod Numbers
pub mod Stores
pub mod Scaling
pub mod Steps
pub mod Round
pub mod Exact
pub mod Files
