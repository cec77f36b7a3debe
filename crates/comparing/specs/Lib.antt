-- What `budquarry_compare` answers stands in `comparisons`. This is for the proofs alone, and no public statement rests on a reader's believing it:
--   Tellings  what the functions of the call hand to each other
-- docs/READING.md explains the notation.
pub mod Tellings
