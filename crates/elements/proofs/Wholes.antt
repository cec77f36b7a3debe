-- The laws of a whole file, one for each way out of a function.
use mathlib.Core.Path.{◌≡◌, refl, sym, ap, ◌∙◌}
use mathlib.Core.Bool.{Bool, true, false}
use mathlib.Core.List.{List, [], ◌∷◌}
use Prim.Native.Nat.{ℕ, ◌+◌, ◌-◌, ◌≤◌, ◌<◌}
use native.Mathlib.Omega.{arith}
use lib.ListN.{length, drop, length-drop}
use Rattle.std.specs.Prelude.{Result, Ok, Err}
use Rattle.text.specs.Texts.{Text, bytes, part, same}
use Rattle.documents.specs.Parts.{malformed, Reader, ◌>>=◌, ◌>>◌, return, fault_at, whether, start_tag, order_mark, prolog, asides, ending}
use Rattle.documents.proofs.Steps.{accepted, refused}
use Rattle.documents.proofs.Leaves.{Leaves, leaves_then, start_tag_leaves, order_mark_leaves, prolog_leaves, asides_leaves}
use Rattle.markup.specs.declared.answers.Cause.TheVariants.{Malformed}
use Rattle.markup.specs.declared.answers.Fault.{Fault as Blame}
use Rattle.markup.specs.declared.answers.Start.{Start}
use Rattle.markup.specs.Places.{blame, placed_as, read_as, read_at, place_of, Within, start_at, Opening}
use Rattle.markup.proofs.Places.{here, nothing_left, place, good}
use Rattle.markup.proofs.Steps as steps
use Rattle.markup.proofs.Steps.{stops, then_goes, faulty}
use Rattle.portals.specs.Elements.{in_app}
use Rattle.portals.specs.Readings.{Reached, reached, content_in, element_in, root_of, kept_of}
use Rattle.ledger.specs.Ledgers.{Ledger, ledgered, no_records}
use Rattle.ledger.specs.Places.{ledger_at, Fits}
use Rattle.elements.specs.declared.giving.Went.{Went}
use Rattle.elements.specs.declared.rows.Phase.TheVariants.{InApp}
use Rattle.elements.specs.Goings.{stood, read_on, shown_by, reached_at, Ready, Gone, opened_by, filling_at, leading, trailing}
use Rattle.elements.proofs.Goings.{fault_on, on_stops, at_stops, got_goes, on_goes, shown_returns, on_true, on_false, regrouped, alike_behind}
use Rattle.elements.proofs.Leavings.{leaves_fault, leaves_whether, filling_leaves, contents_leave}

-- ---- before the root
module _ (s : Text) (m : ℕ) (e : Ok m ≡ read_at order_mark s 0) where
  pub lead_undeclared : (d : Blame) → Err d ≡ read_at prolog s m → Err d ≡ read_at leading s 0
  lead_undeclared d f = then_goes order_mark s 0 (λ a k. k) order_mark_leaves (prolog >> asides) m _ e (stops prolog s m (λ u. asides) (λ a k. k) (λ a k. k) d f)

  pub lead_goes : (p : ℕ) (a : Result ℕ Blame) → Ok p ≡ read_at prolog s m → a ≡ read_at asides s p → a ≡ read_at leading s 0
  lead_goes p a f g = then_goes order_mark s 0 (λ a k. k) order_mark_leaves (prolog >> asides) m a e (then_goes prolog s m (λ a k. k) prolog_leaves asides p a f g)

pub lead_within : (s : Text) (a b n : ℕ) → Within s 0 a → Within s a b → Within s b n → Within s 0 n
lead_within s a b n x y z = record { low = omega arith; high = z.high }

-- ---- behind it
module _ (s : Text) (i : ℕ) where
  pub trail_stops : (d : Blame) → Err d ≡ read_at asides s i → Err d ≡ read_at trailing s i
  trail_stops d e = stops asides s i (λ u. ending) (λ a k. k) (λ a k. k) d e

  module _ (n : ℕ) (e : Ok n ≡ read_at asides s i) where
    pub trail_more : n < length s → (d : Blame) → d ≡ blame Malformed n → Err d ≡ read_at trailing s i
    unfolding ending read_as
    trail_more l d z =
        rw z (then_goes asides s i (λ a k. k) asides_leaves ending n _ e
        (ap (λ (k : ℕ). faulty {B = ℕ} (blame Malformed k)) (sym (place s n (omega arith)) ∙ ap (λ (x : Text). length s - length x) (here s n l)) ∙ rw (here s n l)))

    pub trail_done : n ≤ length s → length s ≤ n → Ok n ≡ read_at trailing s i
    unfolding ending read_as
    trail_done l k = then_goes asides s i (λ a k. k) asides_leaves ending n _ e (rw (nothing_left s n k) (ap good (omega arith)))

-- ---- the root
module _ (s : Text) (i : ℕ) (w : List ℕ) (r : Ready s i i w) where
  abbrev root_to : Result Went Blame → List ℕ → Type 0
  root_to g v = Gone s (read_on (root_of ledgered (ledger_at s w)) s i) g v

  pub root_stops : (d : Blame) → start_at (Err d) ≡ read_at start_tag s i → Within s i d.at → root_to (Err d) w
  unfolding root_of read_as
  root_stops d e l = record { answer = at_stops start_tag s i _ (λ a k. k) d e; within = l.high; fits = r.fits }

  module _ (t : Start) (o : Opening s i t) (b : Bool) (e : b ≡ same (part (i + 1) t.end s) (bytes "web-app")) where
    abbrev named : Reader (Reached Ledger)
    named = whether (same (part (i + 1) t.end s) (bytes "web-app")) (filling_at 7 (length s - i) (opened_by s i t) (reached in_app (ledger_at s w))) (fault_at malformed (length s - i))

    opened : read_on named s t.next ≡ read_on (root_of ledgered (ledger_at s w)) s i
    unfolding root_of read_as
    opened =
        got_goes start_tag s i
        (λ z. whether (same z.name (bytes "web-app")) (filling_at 7 (length (drop i s)) z (reached in_app (ledger_at s w))) (fault_at malformed (length (drop i s)))) t.next _ o.read
        (ap (λ (l : ℕ). read_on (whether (same (part (i + 1) t.end s) (bytes "web-app")) (filling_at 7 l (opened_by s i t) (reached in_app (ledger_at s w))) (fault_at malformed l)) s t.next) (sym (length-drop i s)))

    pub root_other : b ≡ false → (d : Blame) → d ≡ blame Malformed i → root_to (Err d) w
    root_other z d y = rw y (record {
      answer =
          on_false _ (filling_at 7 (length s - i) (opened_by s i t) (reached in_app (ledger_at s w))) (fault_at malformed (length s - i)) s t.next _ (sym e ∙ z)
          (fault_on _ s t.next malformed i (length s - i) (omega (arith, r.within)) refl)
          ∙ opened;
      within = r.within;
      fits = r.fits;
    })

    pub root_filled : (g : Result Went Blame) (v : List ℕ) → b ≡ true → Gone s (read_on (filling_at 7 (length s - i) (opened_by s i t) (reached_at s InApp w)) s t.next) g v → root_to g v
    root_filled g v z f = record {
      answer =
          on_true _ (filling_at 7 (length s - i) (opened_by s i t) (reached in_app (ledger_at s w))) (fault_at malformed (length s - i)) s t.next _ (sym e ∙ z) f.answer
          ∙ opened;
      within = f.within;
      fits = f.fits;
    }

-- ---- the file
leading_leaves : Leaves leading
leading_leaves = leaves_then order_mark _ order_mark_leaves (λ u. leaves_then prolog _ prolog_leaves (λ v. asides_leaves))

ending_leaves : Leaves ending
unfolding ending
ending_leaves [] = accepted ([], refl)
ending_leaves (b ∷ x) = refused

trailing_leaves : Leaves trailing
trailing_leaves = leaves_then asides _ asides_leaves (λ u. ending_leaves)

root_leaves : (x : Ledger) → Leaves (root_of ledgered x)
unfolding root_of
root_leaves x s =
    leaves_then start_tag _ start_tag_leaves (λ t. leaves_whether _ _ _
    (filling_leaves ledgered (content_in (element_in ledgered 7)) (contents_leave ledgered 7) (length s) t (reached in_app x)) (leaves_fault malformed (length s))) s

abbrev behind_root : Reached Ledger → Reader Ledger
behind_root y = trailing >> return y.kept

abbrev in_parts : Ledger → Reader Ledger
in_parts x = leading >> (root_of ledgered x >>= behind_root)

in_parts_lem : (x : Ledger) (s : Text) → in_parts x s ≡ kept_of ledgered x s
unfolding kept_of
in_parts_lem x s =
    regrouped order_mark (λ u. prolog >> asides) (λ u. root_of ledgered x >>= behind_root) s
    ∙ alike_behind order_mark (λ u. (prolog >> asides) >> (root_of ledgered x >>= behind_root)) (λ u. prolog >> (asides >> (root_of ledgered x >>= behind_parts))) s λ u r.
    regrouped prolog (λ v. asides) (λ v. root_of ledgered x >>= behind_root) r
    ∙ alike_behind prolog (λ v. asides >> (root_of ledgered x >>= behind_root)) (λ v. asides >> (root_of ledgered x >>= behind_parts)) r λ v q.
    alike_behind asides (λ v. root_of ledgered x >>= behind_root) (λ v. root_of ledgered x >>= behind_parts) q λ v z.
    alike_behind (root_of ledgered x) behind_root behind_parts z λ y k. regrouped asides (λ v. ending) (λ v. return y.kept) k
  where
    behind_parts : Reached Ledger → Reader Ledger
    behind_parts y = asides >> (ending >> return y.kept)

pub file_ready : (s : Text) (w : List ℕ) (n : ℕ) → length s ≤ 65536 → Fits w → Within s 0 n → Ready s n n w
file_ready s w n h f l = record { within = l.high; begun = omega arith; short = h; fits = f }

module _ (s : Text) (w : List ℕ) (none : ledger_at s w ≡ no_records) where
  abbrev file_to : Result ℕ Blame → List ℕ → Type 0
  file_to r v = shown_by r (ledger_at s v) ≡ read_on (kept_of ledgered no_records) s 0

  whole : read_on (in_parts (ledger_at s w)) s 0 ≡ read_on (kept_of ledgered no_records) s 0
  unfolding read_as
  whole = ap (placed_as stood (length s)) (in_parts_lem (ledger_at s w) s) ∙ ap (λ (x : Ledger). read_on (kept_of ledgered x) s 0) none

  pub file_unled : (d : Blame) → Err d ≡ read_at leading s 0 → file_to (Err d) w
  file_unled d e = at_stops leading s 0 (λ u. root_of ledgered (ledger_at s w) >>= behind_root) (λ a k. k) d e ∙ whole

  module _ (l : ℕ) (e : Ok l ≡ read_at leading s 0) (v : List ℕ) where
    led : read_on (root_of ledgered (ledger_at s w) >>= behind_root) s l ≡ read_on (kept_of ledgered no_records) s 0
    led =
        let y = steps.went leading s 0 leading_leaves l e in
        got_goes leading s 0 (λ u. root_of ledgered (ledger_at s w) >>= behind_root) l _ y.1 refl ∙ whole

    pub file_unrooted : (d : Blame) → Gone s (read_on (root_of ledgered (ledger_at s w)) s l) (Err d) v → file_to (Err d) v
    file_unrooted d g = on_stops (root_of ledgered (ledger_at s w)) s l behind_root d g.answer ∙ led

    pub file_read : (z : Went) → Gone s (read_on (root_of ledgered (ledger_at s w)) s l) (Ok z) v → (r : Result ℕ Blame) → r ≡ read_at trailing s z.next → Within s z.next (place_of r) → file_to r v
    file_read z g r h k =
        on_goes (root_of ledgered (ledger_at s w)) s l behind_root (root_leaves (ledger_at s w)) (reached_at s z.phase v) z.next _ g.answer
        (shown_returns trailing (ledger_at s v) s z.next trailing_leaves r h k.high)
        ∙ led
