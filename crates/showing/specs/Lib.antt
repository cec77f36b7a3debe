-- For the proofs alone: no public statement rests on a reader's believing this.
--   Shown     what is known where a hit is shown
-- docs/READING.md explains the notation.
pub mod Shown
