-- The theorems about deciding. For the customer:
--   Promises    a grant is never lost; what is not covered is open; an empty `*`
--   Droppings   a path is answered as the one without its parameters is
--   Joins       the laws of combining, and that it is 01's "if any .. else if any"
--   Unnamed     methods that a listing does not name are alike to it
--   Bests       matching in plain words, and the best match
--   Extensions  an extension in plain words
--   Cases       01's worked requests 1 to 11, requests with parameters in their paths, and bad callers
-- What a loop over the `pattern` lines gathers:
--   Gatherings  is what the constraints that are taken come to
-- What they lean on:
--   Lasts       what follows the last of a byte in a text
--   Anys        one of a list passes
--   Takings     which constraints are taken, and which roles they admit
pub mod Bests
pub mod Lasts
pub mod Extensions
pub mod Anys
pub mod Joins
pub mod Takings
pub mod Unnamed
pub mod Promises
pub mod Droppings
pub mod Gatherings
pub mod Cases
