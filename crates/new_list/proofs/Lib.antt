-- The laws of a write by growths.
pub mod Turns
pub mod Goes
pub mod Gaps
pub mod Puts
