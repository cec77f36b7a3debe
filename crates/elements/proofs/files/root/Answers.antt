-- `files::root` meets its contract.
use borrow.Author.Rules.{rules}
use Rattle.elements.proofs.Goings.{gone_passed}
use Rattle.elements.proofs.Walks.{tag_entered}
use Rattle.elements.proofs.Wholes.{root_stops, root_other, root_filled}
use Rattle.elements.proofs.files.root.Goals as goal

pub returns-in_err-t : goal.returns-in_err-t
returns-in_err-t c = gone_passed c.from_residual.ensures.1 (search (rules, root_stops))

pub returns-then-not-is_root : goal.returns-then-not-is_root
returns-then-not-is_root c = search (rules, root_other)

pub filling-requires : goal.filling-requires
filling-requires c = search (rules, tag_entered)

pub returns : goal.returns
returns c = search (rules, root_filled)
