-- Whether a new listing lets anyone do more than an old one, in document 01's words, on the definitions of `listings` and `decisions`. Read in this order:
--   Fillers   the filler and the filler method
--   Trials    the requests that are tried
--   Verdicts  what wider means, and the verdict
--   Answers   the answer's text
--   Demands   what is proved of it, as types
-- The last is for the proofs alone, and no public statement rests on a reader's believing it:
--   Loops     the verdict as a program finds it
-- docs/READING.md explains the notation.
pub mod Fillers
pub mod Trials
pub mod Verdicts
pub mod Answers
pub mod Demands
pub mod Loops
