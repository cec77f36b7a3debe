-- `reader::load` meets its contract: its reader has the refusal, or goes on behind the first line.
use mathlib.Core.Path.{refl}
use borrow.Author.Rules.{rules}
use Rattle.std.proofs.lemmas.Result.{err_from_is_err_and}
use Rattle.reading.proofs.Loads.{begins_ready}
use Rattle.reading.proofs.Holdings.{load_refused, load_read}
use Rattle.reading.proofs.reader.load.Goals as goal

pub returns-in_err-reader : goal.returns-in_err-reader
returns-in_err-reader c = let p = err_from_is_err_and c.from_residual.result c.from_residual.ensures.1 in rw (p.1, p.2) (search (rules, load_refused))

pub fill_lines-requires : goal.fill_lines-requires
fill_lines-requires c = search (rules, begins_ready)

pub returns : goal.returns
returns c = load_read _ _ _ _ c.past_first.ensures c.in_ok-reader.reader _ refl (search rules) c.fill_lines.ensures
