-- How the elements of a file are read at places, with the records in the work table:
--   Tables    where elements are out of place
--   Goings    readers that are put together, with the value that is read
--   Leavings  what the readers of elements leave is an end of the text
--   Passings  a run of bytes that may stand as they are
--   Walks     nodes, contents and elements, return by return
--   Givings   records and texts, return by return
--   Wholes    a whole file, return by return
pub mod Tables
pub mod Goings
pub mod Leavings
pub mod Passings
pub mod Walks
pub mod Givings
pub mod Wholes
