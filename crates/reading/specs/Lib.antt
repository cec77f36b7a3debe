-- What reading hands back, on the definitions of `text` and `listings`; read those first. Then in this order:
--   Outcomes  what a call hands back, and what it leaves in the work table
--   Rows      the plain form of the refusals of a whole call, for the theorems that tie it to Outcomes
--   Demands   what the customer asks, as types over the outcomes
-- The next are for the proofs alone, and no public statement rests on a reader's believing them:
--   Cuts      the line at an offset of the text, as the reader cuts it
--   Fillings  reading as it goes over the work table of `entries`
--   Views     what a work table holds, as a value: `pattern` line by `pattern` line, as sets
--   Readers   the reader, from where it stands in the text
--   Holds     what the crates above know of the work table
-- docs/READING.md explains the notation.
pub mod Outcomes
pub mod Rows
pub mod Demands
pub mod Cuts
pub mod Fillings
pub mod Views
pub mod Readers
pub mod Holds
