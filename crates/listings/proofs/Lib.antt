-- The theorems about listings. For the customer:
--   Exactly     a refusal exactly when its rule is broken there and none before it; accepted exactly when none is
-- What it leans on:
--   Lineups     the order of the rules, and the first that is broken
--   Downward    reading line by line
-- For the crates above:
--   Lines       where a `pattern` line comes from
--   Headers     the first line
--   Countings   one record more
--   Sound       the records of an accepted listing pass every rule
pub mod Lines
pub mod Headers
pub mod Countings
pub mod Sound
pub mod Lineups
pub mod Downward
pub mod Exactly
