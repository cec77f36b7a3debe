-- The lent work table around a call, in document 01's words:
--   Work  how long it has to be, and what is left in it
-- docs/READING.md explains the notation.
pub mod Work
