-- For the proofs alone: no public statement rests on a reader's believing these.
--   Writes    what a call leaves in the scratch, and what it keeps
--   Gaps      lines with one text, by their numbers
--   Stemming  the stems while they are written
--   Numbering the scratch while it is filled
-- docs/READING.md explains the notation.
pub mod Writes
pub mod Gaps
pub mod Stemming
pub mod Numbering
