-- `is_name_byte` meets its contract: the checker computes the rule at each of the 256 values, and compares it with the table.
use mathlib.Core.Path.{refl}
use Rattle.documents.specs.Chars.{is_name_start, is_name_byte}
use Rattle.markup.proofs.Bytes.{name_listed}
use Rattle.markup.proofs.chars.is_name_byte.Goals as goal

pub returns-else-matches : goal.returns-else-matches
unfolding is_name_byte is_name_start
returns-else-matches c = name_listed _ c.args.b refl c.ranges.b.fits
