-- `searching::strongest_below` meets its contract: the texts of a view are short.
use borrow.Author.Rules.{rules}
use Rattle.deciding.proofs.Shorts.{lead_short}
use Rattle.numbers.proofs.searching.strongest_below.Goals as goal

pub strongest_by-requires : goal.strongest_by-requires
strongest_by-requires c = λ u k h e. search (rules, lead_short)
