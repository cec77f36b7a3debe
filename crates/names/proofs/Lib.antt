-- The theorems about names and patterns. For the crates above:
--   Plainly  tests of texts, and the kinds of pattern, in plain words
-- The code:
--   Namings  tests taken one by one
pub mod Namings
pub mod Plainly
