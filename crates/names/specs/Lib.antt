-- What a role name, a method and a pattern may be, in document 01's words, on the texts of `text`. Read in this order:
--   Patterns  the kinds of pattern
--   Names     what a name, a method or a pattern has to be
-- docs/READING.md explains the notation.
pub mod Patterns
pub mod Names
