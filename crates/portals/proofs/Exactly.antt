-- The reader accepts exactly what a web.xml means, so a file gives one listing.
use mathlib.Core.Path.{◌≡◌, refl, sym, subst, ◌∙◌}
use mathlib.Core.List.{List, []}
use Prim.Native.Nat.{ℕ}
use Rattle.text.specs.Texts.{Text}
use Rattle.documents.specs.Parts.{Fault, Got, got, fault}
use Rattle.documents.proofs.Steps.{Ok, ok_got}
use Rattle.listings.specs.Records.{Record}
use Rattle.portals.specs.Means.{Means}
use Rattle.portals.specs.Readings.{file_of}
use Rattle.portals.specs.Outcomes.{line_at}
use Rattle.portals.specs.Demands.{AcceptsExactly, OneMeaning, StopsAt, FaultsExactly}
use Rattle.portals.proofs.Sound.{file_ok}
use Rattle.portals.proofs.Complete.{file_complete}

pub accepts_exactly : AcceptsExactly
accepts_exactly =
    record { sound = λ s rs r e. ok_got (subst (Ok (λ qs t. Means s qs × (t ≡ []))) e (file_ok s)); complete = file_complete }

pub one_meaning : OneMeaning
one_meaning s rs rs' m m' =
    let e = file_complete s rs m in
    let e' = file_complete s rs' m' in
    cc

-- what is got is no fault
got_no_fault : {A : Type 0} {a : A} {r : Text} {e : Fault} {n : ℕ} → Path (Got A) (got a r) (fault e n) → ⊥
got_no_fault {A} h = subst (λ (g : Got A). elim g as (λ x. Type 0) [ got a r ↦ Unit | fault e n ↦ ⊥ ]) h tt

pub faults_exactly : FaultsExactly
faults_exactly s = (λ p rs m. got_no_fault (sym (file_complete s rs m) ∙ p.2.1), stops (file_of s) refl)
  where
    stops : (g : Got (List Record)) → file_of s ≡ g → ((rs : List Record) → Means s rs → ⊥) → (e : Fault) × (l : ℕ) × StopsAt s e l
    stops (got rs r) h none = absurd (none rs (accepts_exactly.sound s rs r h).0)
    stops (fault e n) h none = (e, line_at s n, (n, h, refl))
