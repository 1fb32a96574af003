-- The law of a program by its place.
mod Places
