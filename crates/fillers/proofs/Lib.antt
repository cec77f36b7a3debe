-- The laws of the code that finds the fillers:
--   Putting         a letter and a number put at the start of a buffer
--   Marking         finding: numbers marked
--   LeadingNumbers  the numbers that a text starts with
--   MarkingTexts    the numbers of a text, byte by byte
--   MarkingLines    those of a listing's pattern texts, in the work table
--   FirstFiller     the first number without a mark is the filler's
--   Unnamed         the filler method's number
pub mod Putting
pub mod Marking
pub mod LeadingNumbers
pub mod MarkingTexts
pub mod MarkingLines
pub mod FirstFiller
pub mod Unnamed
