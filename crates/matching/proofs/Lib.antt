-- The laws of matching:
--   Strengths  the best match by a number for each pattern text
--   Droppings  the code that drops a path's parameters
--   Endings    the extension of a path, as the code seeks it
--   Matchings  the code that matches, and that chooses the strongest
pub mod Strengths
pub mod Droppings
pub mod Endings
pub mod Matchings
