-- The parts of an XML text, read in code at places. Read in this order:
--   Places               what is handed back, and how it is the answer of a reader of `documents`
--   Lines                the line of a place
--   Gatherings, Tallies  letters gathered one by one, for the proofs alone
-- docs/READING.md explains the notation.
pub mod Places
pub mod Lines
pub mod Gatherings
pub mod Tallies
