-- What the contracts of this program cite:
--   Stored  how a request is stored in its file
-- docs/READING.md explains the notation.
pub mod Stored
