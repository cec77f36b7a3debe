-- The laws of the work table, module by module of the code:
--   Digits      sets as the digits of a number
--   Members     tables: sets as the code makes them
--   Regions     parts of the work table, and the texts that its numbers name
--   Growth      how the tables grow with the numbers written
--   Effects     steps: what each record comes to
pub mod Digits
pub mod Members
pub mod Regions
pub mod Growth
pub mod Effects
