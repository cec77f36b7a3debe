-- For the proofs alone: no public statement rests on a reader's believing these.
--   Keeping   what a call keeps of the lent work table
--   Shares    what texts share, and the numbers that stand for it in the work table
-- docs/READING.md explains the notation.
pub mod Keeping
pub mod Shares
