-- For the proofs alone: no public statement rests on a reader's believing these.
--   Sides     what is made ready of two listings, in numbers
--   Codes     what is joined, as one number
--   Catches   what they come to at two best lines
--   Scratch   where these numbers stand in the lent work table
-- docs/READING.md explains the notation.
pub mod Sides
pub mod Codes
pub mod Catches
pub mod Scratch
