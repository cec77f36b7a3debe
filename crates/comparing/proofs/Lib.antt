-- The laws of comparer's code; the theorems for the customer stand in `comparisons`:
--   Tellings  the walk's hit is the verdict, and what is told of it the answer
--   Compares  what the functions of the whole call hand to each other
pub mod Tellings
pub mod Compares
