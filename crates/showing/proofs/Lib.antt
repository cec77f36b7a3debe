-- The laws of what is shown:
--   StemPaths  the path of a stem, test by test as the code meets it
--   Methods    a trial method by its numbers
--   Pieces     the pieces of the answer, one after the other
pub mod StemPaths
pub mod Methods
pub mod Pieces
