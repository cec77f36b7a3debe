-- The listing for a web.xml, from the records in the work table. What is written is `written` of portals/specs/Listings; here is what serves the proofs alone:
--   Formed  what the functions ask of the records, and what one of them puts
-- docs/READING.md explains the notation.
pub mod Formed
