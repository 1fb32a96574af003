pub mod Cases
pub mod Search
pub mod Valid
pub mod Kept
pub mod Scans
pub mod Turns
