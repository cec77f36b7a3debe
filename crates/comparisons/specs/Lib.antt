-- What `budquarry_compare` answers. What is compared, and what the answer's text is, stands in `trials`; read that first.
--   Outcomes  what a call hands back, and what it leaves in the answer buffer and the work table
--   Rows      its refusals in plain form, row by row
--   Demands   what the customer asks, as types over the outcomes
-- docs/READING.md explains the notation.
pub mod Outcomes
pub mod Rows
pub mod Demands
