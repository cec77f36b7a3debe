-- `adding::allow` meets its contract: a law of Effects for each return.
use borrow.Author.Rules.{rules}
use Rattle.ledger.proofs.Effects.{name_sought, allow_bad, allow_star, allow_past, allow_kept}
use Rattle.ledger.proofs.adding.allow.Goals as goal

pub returns-then-not-is_name : goal.returns-then-not-is_name
returns-then-not-is_name c = search (rules, allow_bad)

pub returns-then-is_star : goal.returns-then-is_star
returns-then-is_star c = search (rules, allow_star)

pub find-i-requires : goal.find-i-requires
find-i-requires c = search (rules, name_sought)

pub returns-then-most-i : goal.returns-then-most-i
returns-then-most-i c = search (rules, allow_past)

pub returns : goal.returns
returns c = search (rules, allow_kept)
