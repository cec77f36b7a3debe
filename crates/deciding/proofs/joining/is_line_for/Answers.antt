-- `joining::is_line_for` meets its contract: the text, then the digit.
use borrow.Author.Rules.{rules}
use Rattle.deciding.proofs.Turns.{line_other, line_same}
use Rattle.deciding.proofs.joining.is_line_for.Goals as goal

pub returns-then-are_same : goal.returns-then-are_same
returns-then-are_same c = search (rules, line_same)

pub returns-else-are_same : goal.returns-else-are_same
returns-else-are_same c = search (rules, line_other)
