-- `stems::line_behind` meets its contract.
use borrow.Author.Rules.{rules}
use Rattle.walks.proofs.Walkings.{line_stays, line_yields}
use Rattle.walks.proofs.stems.line_behind.Goals as goal

pub returns-then-is_firm : goal.returns-then-is_firm
returns-then-is_firm c = search (rules, line_stays)

pub returns : goal.returns
returns c = search (rules, line_yields)
