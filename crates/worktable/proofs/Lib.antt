-- The laws of the work table:
--   Lengths  what the test of its length says
--   Lent     its first numbers, lent within a call and zero afterwards
pub mod Lengths
pub mod Lent
