-- What the call `budquarry_from_web_xml` promises is FromOutcome of portals/specs/Outcomes. Here:
--   Handed  the struct that is handed back, as FromOutcome has it
-- and, for the proofs alone,
--   Calls   what the functions of the call hand to each other
-- docs/READING.md explains the notation.
pub mod Handed
pub mod Calls
