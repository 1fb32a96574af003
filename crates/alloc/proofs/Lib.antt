pub mod Files
pub mod Scanning
pub mod Turning
pub mod Tested
pub mod Told
