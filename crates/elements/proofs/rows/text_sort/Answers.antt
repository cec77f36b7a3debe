-- `rows::text_sort` meets its contract: none of these names.
use borrow.Author.Rules.{rules}
use Rattle.text.proofs.Truths.{cond_no}
use Rattle.elements.proofs.rows.text_sort.Goals as goal

pub returns : goal.returns
returns c = search (rules, cond_no)
