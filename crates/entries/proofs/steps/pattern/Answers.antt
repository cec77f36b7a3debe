-- `steps::pattern` meets its contract: a law of Effects for each return.
use borrow.Author.Rules.{rules}
use Rattle.entries.proofs.Effects.{pattern_bad, pattern_past, pattern_next}
use Rattle.entries.proofs.steps.pattern.Goals as goal

pub returns-then-not-is_pattern : goal.returns-then-not-is_pattern
returns-then-not-is_pattern c = search (rules, pattern_bad)

pub returns-then-most-n : goal.returns-then-most-n
returns-then-most-n c = search (rules, pattern_past)

pub returns : goal.returns
returns c = search (rules, pattern_next)
