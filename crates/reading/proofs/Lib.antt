-- The laws and the theorems of reading. For the customer:
--   Demands     what is asked of the call holds
--   Unique      the statement settles the outcome
--   Firsts      when each refusal of the call is given
-- For the crates above:
--   Accepted    what is known of an accepted listing
--   Viewings    the view of a listing, and that of tables
--   Holdings    what is read off the work table is the view that it holds, and `load` leaves that of the listing
-- The code, module by module:
--   Cuts        lines: a text cut at its tabs and bytes 10
--   Lineheads   how a line begins
--   Linecuts    a line cut at an offset, and what it comes to
--   Walks       from a record's step to its line, and on to the whole reading
--   Loads       the whole of reading
-- Without code, that reading over tables is reading, and that the tables picture the listing:
--   Countings   one record more
--   Keeping     what the tables keep of the records before
--   Filling     reading over tables is reading
--   Numberings  lists of lists numbered through
--   Coverings   the sets that the tables keep
--   Pictures    the tables picture the listing
--   Rulings     the same rule by rule
pub mod Countings
pub mod Keeping
pub mod Filling
pub mod Cuts
pub mod Walks
pub mod Lineheads
pub mod Linecuts
pub mod Loads
pub mod Numberings
pub mod Coverings
pub mod Pictures
pub mod Viewings
pub mod Rulings
pub mod Holdings
pub mod Unique
pub mod Firsts
pub mod Demands
pub mod Accepted
