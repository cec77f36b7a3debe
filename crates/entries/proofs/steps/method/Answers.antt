-- `steps::method` meets its contract: a law of Effects for each return.
use borrow.Author.Rules.{rules}
use Rattle.entries.proofs.Effects.{line_bad, lines_past, line_known, methods_past, line_new}
use Rattle.entries.proofs.steps.method.Goals as goal

pub returns-then-not-is_method_name : goal.returns-then-not-is_method_name
returns-then-not-is_method_name c = search (rules, line_bad)

pub returns-then-most-t : goal.returns-then-most-t
returns-then-most-t c = search (rules, lines_past)

pub returns-in-Some : goal.returns-in-Some
returns-in-Some c = search (rules, line_known)

pub returns-then-most-n : goal.returns-then-most-n
returns-then-most-n c = search (rules, methods_past)

pub returns : goal.returns
returns c = search (rules, line_new, c.requires)
