-- For the proofs alone: no public statement rests on a reader's believing these.
--   Walks     the walk over the numbers, and the request that a hit stands for
--   Gathers   the rosters of all extensions together
-- docs/READING.md explains the notation.
pub mod Walks
pub mod Gathers
