-- The theorems about the trials. For the customer:
--   NoWider         the verdict is right over all requests
--   AnswersTell     the answer's text fits its buffer and tells the verdict
-- What it leans on:
--   Insides         tests on texts
--   Unders          what lies below what
--   Endings         extensions
--   Findings        the largest that passes
--   Choices         lists joined, and the first that passes
--   StandIns        every path has a trial path that the same pattern texts match
--   Forms           what a trial path looks like
--   Pigeons         more texts than a list has
--   Decimals        numbers in decimal
--   FillersExist    the filler and the filler method exist
--   Alikes          paths that the same patterns match
--   Bounds          the trials are requests that a call can ask
--   Widenings       a request that widens has a trial that widens
-- The verdict as a program finds it:
--   Loops           the verdict by loops over paths, methods and callers
--   Turns           the loops turn by turn, and by the lines of the listings
pub mod Insides
pub mod Unders
pub mod Endings
pub mod Findings
pub mod Choices
pub mod StandIns
pub mod Forms
pub mod Pigeons
pub mod Decimals
pub mod FillersExist
pub mod Alikes
pub mod Bounds
pub mod Widenings
pub mod NoWider
pub mod AnswersTell
pub mod Loops
pub mod Turns
