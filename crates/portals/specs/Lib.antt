-- What a web.xml says, in the words of 02's Item 3, on the XML texts of `documents` and the records of `listings`. Read in this order:
--   Elements  the elements that are known by name, and what may stand in which
--   Records   what is added when an element is read, and when that breaks a rule
--   Means     the meaning of a file: a document, arranged so, that gives these records
--   Listings  the listing that the records make, and its text
--   Readings  the reader: the same from the first byte on, with the first fault and its place
--   Outcomes  what the call hands back, and what it leaves in each buffer
--   Plainly   the roles and the constraints of a tree, as one who knows web.xml reads them off
--   Demands   what is asked of all that, as types; proofs/ has the proofs
--   Worked    small files and what each comes to, to compute with
-- docs/READING.md explains the notation.
pub mod Elements
pub mod Records
pub mod Means
pub mod Listings
pub mod Readings
pub mod Outcomes
pub mod Plainly
pub mod Demands
pub mod Worked
