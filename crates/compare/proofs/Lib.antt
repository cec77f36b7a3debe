-- The laws that the proofs cite:
--   Filled  a buffer that is filled read by read
--   Pieces  the line of a refusal, put piece by piece
--   Prints  what a call of comparing hands back and leaves, and the text that is printed of it
--   Shown   lines of refusals, computed
--   Unique  the statement settles the outcome
pub mod Filled
pub mod Pieces
pub mod Prints
pub mod Shown
pub mod Unique
