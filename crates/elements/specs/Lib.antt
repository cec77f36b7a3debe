-- How the elements of a web.xml are read in code, at places of the file and with the records in the work table. For the proofs alone, and no public statement rests on a reader's believing them:
--   Rows    what a first tag comes to, as `portals` has it
--   Goings  a reader's answer, with places counted from the start
-- docs/READING.md explains the notation.
pub mod Rows
pub mod Goings
