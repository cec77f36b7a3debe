-- What the contracts here cite:
--   Cases    the names of the cases' files
--   Garbage  what the work table holds before a call, and the tests of it afterwards
-- docs/READING.md explains the notation.
pub mod Cases
pub mod Garbage
