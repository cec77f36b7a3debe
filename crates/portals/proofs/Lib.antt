-- That the reader of specs/Readings accepts what specs/Means says, and nothing else:
--   Sound     what it accepts is meant
--   Complete  what is meant it accepts
--   Exactly   both, and so a file gives one listing
--   Keepings  two ways to keep the records that are tied are read alike
--   Rows      what is handed back is the row that is given
--   Definite  what is asked of the outcomes
-- The theorems about a web.xml's listing. For the customer:
--   Demands       what is written for a file is accepted, and says what the file says
--   Cases         small files, computed from their bytes: their listings, and their refusals with the line
-- What it leans on, of lists and texts:
--   Eaches        what holds of each of a list
--   Distincts     texts of which no two are the same, and how many distinct ones there are
--   Fields        the fields of the records that pass a test
-- Of the tree and its records:
--   Openings      what a first tag comes to, as a relation, and the names of the elements
--   Shapes        the records of a constraint in the file's order and in the listing's
--   Givings       a content gives the records of the roles and constraints that Plainly reads off
--   Goods         each of these records fits, and they are not too many
-- Of the listing:
--   Arrangements  the records arranged: the roles, then constraint by constraint
--   Drawn         the listing's roles and constraints are those that the records were made of
--   Followings    each of the records may stand where it does
--   Fewer         the starts of the arranged records hold no more than the file's
--   Writings      the text of records that break no rule is accepted, and has these records
pub mod Sound
pub mod Complete
pub mod Exactly
pub mod Keepings
pub mod Rows
pub mod Definite
pub mod Eaches
pub mod Distincts
pub mod Openings
pub mod Shapes
pub mod Fields
pub mod Givings
pub mod Fewer
pub mod Goods
pub mod Arrangements
pub mod Drawn
pub mod Followings
pub mod Writings
pub mod Demands
pub mod Cases
