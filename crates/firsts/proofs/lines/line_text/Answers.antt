-- `lines::line_text` meets its contract: new's lines stand first.
use borrow.Author.Rules.{rules}
use Rattle.firsts.proofs.Sharings.{line_new, line_within, line_old}
use Rattle.firsts.proofs.lines.line_text.Goals as goal

pub returns-then-j-n : goal.returns-then-j-n
returns-then-j-n c = search (rules, line_new)

pub pattern-requires-2 : goal.pattern-requires-2
pattern-requires-2 c = search (rules, line_within)

pub returns : goal.returns
returns c = search (rules, line_old)
