-- The meaning of a listing, in document 01's words, on the texts of `text`. What a name, a method or a pattern may be stands in `names`, the most-numbers in `limits`. Read in this order:
--   Records   the records, and which may follow which
--   Fields    what the field of a record has to be
--   Counts    when the records are too many
--   Refusals  the rules that a listing can break, their numbers and their order: what reading answers
--   Listings  what an accepted listing is: its roles, methods, constraints and collections
--   Propers   what is known of every accepted listing
--   Rules     the plain form of the refusals, for the theorem that ties it to Refusals
-- The last is for the proofs alone, and no public statement rests on a reader's believing it:
--   Heads     how the code takes a line's head and what may follow what
-- docs/READING.md explains the notation.
pub mod Records
pub mod Fields
pub mod Counts
pub mod Refusals
pub mod Listings
pub mod Propers
pub mod Rules
pub mod Heads
