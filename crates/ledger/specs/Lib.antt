-- The records of a web.xml as they stand in the work table while it is read. For the proofs alone, and no public statement rests on a reader's believing them:
--   Ledgers  what is kept of the records, as a value, and how it grows
--   Places   the same as numbers in the work table
-- docs/READING.md explains the notation.
pub mod Ledgers
pub mod Places
