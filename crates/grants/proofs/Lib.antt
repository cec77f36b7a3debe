-- The laws of whom a side grants. Without code:
--   Chains          the lines with one text, joined along the table of a side
--   Grantees        the table grants at a path's best line whom the listing grants there
--   FreshRoles      the first caller, by sets
--   Grants          what two best lines come to is what the listings come to
--   Showables       whoever is caught may be shown, of any two views
--   OwnStems        the best line of a pattern's own stem
--   Stems           the best line of a stem is that of its trial path
-- The code, module by module:
--   Stores          a table that a loop fills number by number
--   Granting        rosters: whom it grants, line by line in numbers
--   Judgings        judging: two rosters, two best lines, a path
pub mod Chains
pub mod Grantees
pub mod FreshRoles
pub mod Stores
pub mod Grants
pub mod Showables
pub mod OwnStems
pub mod Stems
pub mod Granting
pub mod Judgings
