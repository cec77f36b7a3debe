-- `adding::pattern` meets its contract: a law of Effects for each return.
use borrow.Author.Rules.{rules}
use Rattle.ledger.proofs.Effects.{pattern_bad, pattern_past, pattern_kept}
use Rattle.ledger.proofs.adding.pattern.Goals as goal

pub returns-then-not-is_pattern : goal.returns-then-not-is_pattern
returns-then-not-is_pattern c = search (rules, pattern_bad)

pub returns-then-most-count : goal.returns-then-most-count
returns-then-most-count c = search (rules, pattern_past)

pub returns : goal.returns
returns c = search (rules, pattern_kept)
