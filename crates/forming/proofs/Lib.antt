-- The laws of writing a listing:
--   Lefts   a text of which a part is put already
--   Pieces  the line of a record
--   Orders  the records one after the other, and what each puts
--   Sizes   how long a listing can be
pub mod Lefts
pub mod Pieces
pub mod Orders
pub mod Sizes
