-- What is put into a buffer is `lib.Seq`'s `sets`: the bytes one after the other, where a store past the end changes nothing.
--   Decimals  a number in decimal
-- docs/READING.md explains the notation.
pub mod Decimals
