-- `one` meets its contract, whatever kind it is.
use borrow.Author.Rules.{rules}
use mathlib.Core.Bool.{true, false}
use mathlib.Core.Path.{sym}
use lib.ListN.{get_or}
use Rattle.markup.proofs.Places.{one_none, one_other, one_read}
use Rattle.markup.proofs.words.one.Goals.{else-at-s-via-then-at-s+else-kind, else-at-s-via-else-at-s}
use Rattle.markup.proofs.words.one.Goals as goal

pub returns-then-kind-clause-exact : goal.returns-then-kind-clause-exact
returns-then-kind-clause-exact g c = λ p h. one_read c.args.s.now c.args.at p (search rules) (sym (h (get_or c.args.s.now c.args.at 0) true (search rules) (search rules)))

pub returns-clause-exact : goal.returns-clause-exact
returns-clause-exact g c = λ p h.
    elim c.else-at-s.branch [
      | else-at-s-via-then-at-s+else-kind w ↦
          one_other c.args.s.now c.args.at c.malformed.result c.malformed.ensures p (search rules) (sym (h (get_or c.args.s.now c.args.at 0) false (search rules) (search rules)))
      | else-at-s-via-else-at-s w ↦ one_none c.args.s.now c.args.at c.malformed.result c.malformed.ensures p (search rules)
    ]
