-- What a listing decides of a request, in document 01's words, on the definitions of `text` and `listings`. Read in this order:
--   Matching   which pattern matches a path, and which is the best match
--   Paths      a path without its parameters
--   Requests   what a request has to be, and who the caller is
--   Combining  what a constraint says, and what several come to together
--   Decisions  which constraints are taken, what they come to, and the answer
--   Demands    what is proved of it, as types
--   Worked     01's worked requests, to compute with
-- The last is for the proofs alone, and no public statement rests on a reader's believing it:
--   Gatherings what the `pattern` lines come to, one after the other
-- docs/READING.md explains the notation.
pub mod Matching
pub mod Paths
pub mod Requests
pub mod Combining
pub mod Decisions
pub mod Demands
pub mod Worked
pub mod Gatherings
