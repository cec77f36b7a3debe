-- The laws of texts that are found once:
--   Keepings        what is kept of the work table
--   Commons         what texts share
--   Sharings        sharing: what a text shares with the lines
--   Enterings       entering: the lines with their nearest and first ones
pub mod Keepings
pub mod Commons
pub mod Sharings
pub mod Enterings
