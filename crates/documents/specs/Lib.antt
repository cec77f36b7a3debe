-- XML texts as far as a web.xml needs them, on the texts of `text`. Read in this order:
--   Chars    the kinds of bytes, and runs of one kind
--   Grammar  the tree, and which bytes spell it
--   Parts    readers of the parts of a text: what is read and what is left, or a fault and how many bytes are left there
--   Cases    some of these answers, computed
-- docs/READING.md explains the notation.
pub mod Chars
pub mod Grammar
pub mod Parts
pub mod Cases
