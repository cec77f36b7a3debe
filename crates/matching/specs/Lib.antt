-- Matching by numbers. What a match is, and which is best, stands in `decisions`; this is for the proofs alone, and no public statement rests on a reader's believing it:
--   Strengths  the best match by a number for each pattern text
-- docs/READING.md explains the notation.
pub mod Strengths
