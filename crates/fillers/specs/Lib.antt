-- For the proofs alone: no public statement rests on a reader's believing this.
--   Marks     a table of marked numbers
-- docs/READING.md explains the notation.
pub mod Marks
