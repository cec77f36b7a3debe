-- What the contracts of this program cite:
--   Printed  the text that is printed of two listings, and the whole outcome
-- docs/READING.md explains the notation.
pub mod Printed
