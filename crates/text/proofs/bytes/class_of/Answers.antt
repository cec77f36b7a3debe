-- `bytes::class_of` meets its contract: the checker computes the rule at each of the 256 values, and compares it with the table.
use mathlib.Core.Path.{refl}
use Rattle.text.specs.Texts.{has}
use Rattle.text.specs.Bytes.{class_table, class_of, is_text, is_token}
use Rattle.text.proofs.Classes.{class_entry}
use Rattle.text.proofs.bytes.class_of.Goals as goal

pub returns : goal.returns
unfolding class_table class_of is_text is_token has
returns c = class_entry _ c.args.b refl c.ranges.b.fits
