-- `adding::method` meets its contract: a law of Effects for each return.
use borrow.Author.Rules.{rules}
use Rattle.ledger.proofs.Effects.{method_name_sought, method_bad, line_past, method_past, method_kept}
use Rattle.ledger.proofs.adding.method.Goals as goal

pub returns-then-not-is_method_name : goal.returns-then-not-is_method_name
returns-then-not-is_method_name c = search (rules, method_bad)

pub returns-then-most-count : goal.returns-then-most-count
returns-then-most-count c = search (rules, line_past)

pub find-i-requires : goal.find-i-requires
find-i-requires c = search (rules, method_name_sought)

pub returns-then-most-i : goal.returns-then-most-i
returns-then-most-i c = search (rules, method_past)

pub returns : goal.returns
returns c = search (rules, method_kept)
