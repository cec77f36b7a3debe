-- The laws of writing.
--   Decimals  numbers in decimal digits
--   Puts      texts put into a buffer, one after the other
pub mod Decimals
pub mod Puts
