-- What the call of deciding hands back, on the definitions of `decisions`. Read in this order:
--   Outcomes   what a call hands back
--   Rows       its refusals in plain form, row by row
--   Demands    what the customer asks, as types over the outcomes
-- The next are for the proofs alone, and no public statement rests on a reader's believing them:
--   Joinings   the answer in numbers and sets
--   Deciders   what the functions of the call hand to each other
-- docs/READING.md explains the notation.
pub mod Outcomes
pub mod Rows
pub mod Demands
pub mod Joinings
pub mod Deciders
