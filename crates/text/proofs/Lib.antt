-- The laws of bytes and texts:
--   Truths   truth values, and choices between two answers
--   Classes  the class table
--   Spans    the tests on texts
--   Indices  the indices of texts among texts
pub mod Truths
pub mod Classes
pub mod Spans
pub mod Indices
