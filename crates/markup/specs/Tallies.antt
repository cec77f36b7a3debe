-- What the code's counts and the buffer come to, as `Gatherings` has it.
use Rattle.std.specs.Prelude.{ℕ, length, Result}
use Rattle.std.specs.Result.{result_map_both}
use Rattle.text.specs.Texts.{Text}
use Rattle.documents.specs.Parts.{trimmed}
use Rattle.markup.specs.declared.answers.Fault.{Fault as Blame}
use Rattle.markup.specs.declared.gathering.Kept.{Kept}
use Rattle.markup.specs.declared.gathering.Taken.{Taken}
use Rattle.markup.specs.declared.gathering.Gathered.{Gathered}
use Rattle.markup.specs.Gatherings.{Tally}

abbrev pub tally : Kept → Text → Tally
tally k out = record { kept = k.kept; size = k.size; out = out }

-- a tally and the place behind what was read
pub record Tallied : Type 0 where
  pub tally : Tally
  pub next : ℕ

abbrev pub tallied : Tally → ℕ → Tallied
tallied z n = record { tally = z; next = n }

abbrev pub taken_tally : Result Taken Blame → Text → Result Tallied Blame
taken_tally r out = result_map_both (λ t. tallied (tally t.kept out) t.next) (λ e. e) r

-- what the letters t come to
abbrev pub gathered : Text → ℕ → Gathered
gathered t n = record { len = length (trimmed t); next = n }

-- the places
abbrev pub taken_at : Result Taken Blame → Result ℕ Blame
taken_at r = result_map_both (λ t. t.next) (λ e. e) r

abbrev pub gathered_at : Result Gathered Blame → Result ℕ Blame
gathered_at r = result_map_both (λ g. g.next) (λ e. e) r
