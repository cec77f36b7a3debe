-- The laws of a ledger in the work table:
--   Stamps    the names that the table's numbers say, and the search among them
--   Writes    what a write in the table does to the ledger that it holds
--   Letters   the text at a place of the file, as it is gathered there
--   Effects   what adding a record comes to, return by return
-- and what it keeps of the records, without the table:
--   Pictures  what is kept of the records, with one more and with the last constraint guarded
--   Spares    the declared names are no more than the names
--   Rules     the same rules are broken
--   Sizes     how long their listing is
pub mod Stamps
pub mod Writes
pub mod Letters
pub mod Effects
pub mod Pictures
pub mod Spares
pub mod Rules
pub mod Sizes
