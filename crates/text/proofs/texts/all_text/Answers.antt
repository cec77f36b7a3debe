-- `texts::all_text` meets its contract: the library asks each element.
use borrow.Author.Rules.{rules}
use mathlib.Core.Path.{refl}
use Rattle.std.proofs.lemmas.List.Recursion.{and_is}
use Rattle.text.specs.Texts.{all}
use Rattle.text.specs.Bytes.{is_text}
use Rattle.text.proofs.texts.all_text.Goals as goal

pub returns : goal.returns
unfolding all
returns c = and_is (all is_text) is_text refl (λ _ _. refl) c.args.t.now 0 _ (search rules) (search rules)
