-- `rows::sort_of` meets its contract: none of these names.
use borrow.Author.Rules.{rules}
use Rattle.text.proofs.Truths.{cond_no}
use Rattle.portals.specs.Elements.{sort_of}
use Rattle.elements.proofs.rows.sort_of.Goals as goal

pub returns : goal.returns
unfolding sort_of
returns c = search (rules, cond_no)
