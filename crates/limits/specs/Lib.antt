-- The most that a listing may hold, in document 01's words:
--   Limits  the seven most-numbers
-- docs/READING.md explains the notation.
pub mod Limits
