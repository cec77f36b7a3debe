-- The laws of the call:
--   Makings     a listing measured, and written where it fits
--   Meant       the records that a file gives can be written
--   Ties        a file is read into the work table as it is read into its records
--   Imports     a file that is read, its fault or its listing; the whole call
--   OneOutcome  two outcomes of the call are equal
pub mod Makings
pub mod Meant
pub mod Ties
pub mod Imports
pub mod OneOutcome
