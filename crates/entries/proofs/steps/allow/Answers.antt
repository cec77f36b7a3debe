-- `steps::allow` meets its contract: a law of Effects for each return.
use borrow.Author.Rules.{rules}
use Rattle.entries.proofs.Effects.{allow_bad, allow_star, allow_known, allow_past, allow_new}
use Rattle.entries.proofs.steps.allow.Goals as goal

pub returns-then-not-is_name : goal.returns-then-not-is_name
returns-then-not-is_name c = search (rules, allow_bad)

pub returns-then-is_star : goal.returns-then-is_star
returns-then-is_star c = search (rules, allow_star)

pub returns-in-Some : goal.returns-in-Some
returns-in-Some c = search (rules, allow_known)

pub returns-then-most-n : goal.returns-then-most-n
returns-then-most-n c = search (rules, allow_past)

pub returns : goal.returns
returns c = search (rules, allow_new)
