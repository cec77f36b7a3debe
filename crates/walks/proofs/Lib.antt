-- The laws of the walk over the numbers. Without code:
--   Firsts      the first answer of indices gone through one by one, repeats passed over
--   Verdict     the walk finds the verdict
--   Hits        a hit's numbers are within bounds, and it is a trial
--   Withins     sets within sets: `&`, `|`, and what one set has and another has not
--   Together    no extension behind a stem shows where all of them together do not
-- The code, module by module:
--   Gatherings  gathering: the rosters of all extensions together
--   Walkings    stems and walking: the extensions behind a stem, and stem after stem
pub mod Firsts
pub mod Verdict
pub mod Hits
pub mod Withins
pub mod Together
pub mod Gatherings
pub mod Walkings
