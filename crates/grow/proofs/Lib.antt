-- The laws of a growth, for the crates above.
pub mod Rooms
pub mod Spoils
pub mod Pointers
pub mod Links
pub mod Turns
pub mod Tries
pub mod Takes
pub mod Extends
pub mod Tests
pub mod Growing
pub mod Pointed
pub mod Growths
pub mod Same
pub mod Examples
