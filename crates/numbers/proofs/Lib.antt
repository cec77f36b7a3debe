-- The laws of texts that become numbers:
--   Writings        what is written, and what is kept
--   Stills          a table that holds a view and is written behind it: for a caller that keeps both in one slice
--   SideLines       sides: the table of a side
--   Pairings        methods: the trial methods by their numbers
--   PairsPut        the same in the work table
--   Searchings      searching: the strongest pattern at a stem
--   Roots           the best line of an extension's stem, by the root's
--   Stemmings       stems: the stems of both listings
--   StemsPut        the same in the work table
--   Numberings      numbering: the parts of the scratch put together
pub mod Writings
pub mod Stills
pub mod SideLines
pub mod Pairings
pub mod PairsPut
pub mod Searchings
pub mod Roots
pub mod Stemmings
pub mod StemsPut
pub mod Numberings
