-- The laws and the theorems of the call:
--   Demands    what the customer asks of the call holds
--   Promises   what it rests on: a grant, a refusal, one outcome
--   Exactly    when each refusal is given
--   Cases      01's worked requests 1 to 11
--   Shorts     a view's patterns are few and short
--   Turns      the constraints joined line by line, as the code meets them
--   Joins      what the code joins of a listing's view gives Decisions' answer
--   Calls      what the functions of the whole call hand to each other
pub mod Promises
pub mod Exactly
pub mod Demands
pub mod Cases
pub mod Shorts
pub mod Turns
pub mod Joins
pub mod Calls
