-- That the readers of specs/Parts accept what specs/Grammar spells, and nothing else:
--   Chars     kinds of bytes, and runs of one kind
--   Steps     how readers that are put together are reasoned about
--   Loops     the two loops, `many` and `walk`, turn by turn
--   Sound     what a reader accepts is spelt
--   Complete  what is spelt is accepted
--   Leaves    what a reader leaves is an end of the text, and a shorter one
--   Letters   a content of letters and comments up to the next tag is read as its letters
--   Faults    a letter is right or wrong as a whole
--   Alike     two readers that go the same way
pub mod Chars
pub mod Steps
pub mod Loops
pub mod Sound
pub mod Complete
pub mod Leaves
pub mod Letters
pub mod Faults
pub mod Alike
