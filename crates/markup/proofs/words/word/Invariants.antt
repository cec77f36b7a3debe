-- `word` meets its contract: what is left of both decides.
use mathlib.Core.Path.{◌≡◌}
use Prim.Native.Nat.{◌≤◌}
use lib.ListN.{length, drop}
use Rattle.documents.specs.Parts as list
use Rattle.markup.specs.Places.{read_at}
use Rattle.markup.proofs.words.word.Given as goal

abbrev pub invariant-loop-b : goal.invariant-loop-b
invariant-loop-b l = (l.at ≤ l.n) × (l.n ≤ length l.s) × (read_at (list.word l.w) l.s l.at ≡ read_at (list.word (drop l.b-index l.w)) l.s l.n)
