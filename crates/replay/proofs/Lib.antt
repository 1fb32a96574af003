-- The laws of the replay.
mod Listed
mod Allotted
