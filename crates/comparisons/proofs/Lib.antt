-- The theorems of comparing, for the customer. They are about the call's statement and no code:
--   Demands     what is asked of the call holds
--   Promises    what a call hands back and writes is right over all requests
--   ByCalls     the verdict is right by the calls of deciding
--   Exactly     when each refusal is given
--   OneOutcome  the statement settles the outcome
--   Cases       01's worked request 12
-- For the code:
--   Handing     what is handed back, of a report and a length
pub mod Handing
pub mod ByCalls
pub mod Promises
pub mod Exactly
pub mod OneOutcome
pub mod Demands
pub mod Cases
