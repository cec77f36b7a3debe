-- The work table, and what a record adds to it. All of it is for the proofs, and no public statement rests on a reader's believing it. In the order to read:
--   Sets      sets of small numbers as the digits of a number
--   Tallies   the counts of the work table
--   Room      how many numbers of the work table a listing takes
--   Tables    the work table as lists, what refuses a record and what it adds, and the numbers that stand for the lists
-- docs/READING.md explains the notation.
pub mod Sets
pub mod Tallies
pub mod Room
pub mod Tables
