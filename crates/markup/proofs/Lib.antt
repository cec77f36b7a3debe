-- How reading at places is the reading of lists:
--   Bytes         the table of the bytes of a name
--   Places        a byte and what follows it; one law for each way out of a leaf
--   Steps         readers that are put together: where the first part faults, where it goes on, where a loop turns
--   Blames        where a fault is put
--   Values        the values that are read, and letters
--   Loops         words, values and attributes, turn by turn; what goes on behind a word, a name, a quote
--   Openings      first tags
--   Surroundings  what stands round the element
--   Counts        lines
--   Tallied       what is gathered letter by letter is the trimmed text
--   Keepings      gathering at places
pub mod Bytes
pub mod Places
pub mod Steps
pub mod Blames
pub mod Values
pub mod Loops
pub mod Openings
pub mod Surroundings
pub mod Counts
pub mod Tallied
pub mod Keepings
