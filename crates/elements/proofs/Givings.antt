-- The laws of what an element gives, one for each way out of a function.
use mathlib.Core.Path.{◌≡◌, refl, sym, ap, subst, ◌∙◌}
use mathlib.Core.Bool.{Bool, true, false, ◌&&◌, false≢true}
use mathlib.Core.List.{List, [], ◌++◌, append_assoc}
use mathlib.Core.Option.{Option, none, some}
use Rattle.std.specs.Prelude.{Result, Ok, Err}
use Rattle.std.specs.Result.{MatchResult, IsErrAnd, result_map_both}
use Prim.Native.Nat.{ℕ, ◌+◌, ◌-◌, ◌≤◌, ◌<◌}
use native.Mathlib.Omega.{arith}
use native.Mathlib.Decide.{ℕ_discrete, dec_lt}
use lib.Dec.{leb}
use lib.ListN.{length, take, drop}
use borrow.Author.Tests.{ne_eqb, lt-leb}
use Rattle.text.specs.Texts.{Text, bytes, part, all}
use Rattle.text.specs.Bytes.{is_text, is_token}
use Rattle.names.specs.Names.{made_of, is_name, is_role_name, is_method_name, is_pattern}
use Rattle.documents.specs.Chars.{after}
use Rattle.documents.specs.Parts.{Fault, Got, got, fault, ◌>>◌, return, fault_at, goes_on, piece, letters, trimmed, trim_end, second_tag}
use Rattle.documents.proofs.Steps.{Ok as Accepts, ok_got, Reads, run_false}
use Rattle.documents.proofs.Sound.{end_of, Opens, opens, start_tag_ok}
use Rattle.documents.proofs.Letters.{goes_none, tag_goes_not}
use Rattle.documents.proofs.Loops.{walk_ends}
use Rattle.documents.proofs.Leaves.{piece_less, letters_leaves, second_tag_leaves}
use Rattle.listings.specs.Records.{Record}
use Rattle.listings.specs.Fields.{name_fits, pattern_fits}
use Rattle.markup.specs.declared.answers.Cause.{Cause}
use Rattle.markup.specs.declared.answers.Fault.{Fault as Blame}
use Rattle.markup.specs.declared.answers.Start.{Start}
use Rattle.markup.specs.declared.gathering.Gathered.{Gathered}
use Rattle.markup.specs.Places.{blame, cause_of, placed_as, read_as, read_at, read_or, Within}
use Rattle.markup.specs.Tallies.{gathered}
use Rattle.markup.proofs.Steps as steps
use Rattle.markup.proofs.Steps.{fine, faulty}
use Rattle.markup.proofs.Values.{got_value}
use Rattle.portals.specs.Records.{record_of}
use Rattle.portals.specs.Readings.{Reached, adding, doing, telling}
use Rattle.ledger.specs.Ledgers.{Ledger, ledgered, ledger_fault, kept, marked}
use Rattle.ledger.specs.declared.items.Item.{Item}
use Rattle.ledger.specs.declared.items.Item.TheVariants as I
use Rattle.ledger.specs.Places.{text_at, field_by, kind_by, number_of, record_by, ledger_at, Fits, Added, AddedBy, Offered, Judged, Guarded, long_fault}
use Rattle.ledger.proofs.Letters.{refused_none, text_read, gathered_size}
use Rattle.elements.specs.declared.giving.Went.{Went}
use Rattle.elements.specs.declared.rows.Effect.{Effect}
use Rattle.elements.specs.declared.rows.Effect.TheVariants as E
use Rattle.elements.specs.declared.rows.Leaf.{Leaf}
use Rattle.elements.specs.Rows.{phase_at, is_text_kind}
use Rattle.elements.specs.Goings.{stood, Going, read_on, done_by, reached_at, Tagged, Entered, Saying, Gone, FaultsAt, Given, Done, opened_by, adding_at, saying_at}
use Rattle.elements.proofs.Goings.{got_on, fault_on, on_stops, at_stops, got_goes, on_goes, at_returns, on_true}
use Rattle.elements.proofs.Leavings.{adding_leaves, telling_leaves}

-- ---- a record added
-- what `map_err` hands back of what adding the record came to
module _ (p : ℕ) (Made : Cause → Blame → Type 0) (made : (c : Cause) (d : Blame) → Made c d → d ≡ blame c p) where
  blames_done : (n : Result (Unit {0}) Cause) (r : Result (Unit {0}) Blame) → MatchResult n (λ x. r ≡ Ok x) (λ c. IsErrAnd r (λ d. Made c d)) → r ≡ result_map_both (λ u. u) (λ c. blame c p) n
  blames_done (Ok x) r h = h
  blames_done (Err c) (Ok x) h = absurd h
  blames_done (Err c) (Err d) h = ap (faulty {B = Unit {0}}) (made c d h)

added_on : (s : Text) (p i : ℕ) (x : Ledger) (r : Record) (n : Result (Unit {0}) Cause) (v : List ℕ) → Added s x r n v → p ≤ length s → i ≤ length s
    → done_by (result_map_both (λ u. u) (λ c. blame c p) n) i (ledger_at s v) ≡ read_on (adding ledgered (length s - p) r x) s i
unfolding read_as adding
added_on s p i x r n v a h l = go (ledger_fault x r) a.answer
  where
    go : (o : Option Fault) → AddedBy o x r s n v
        → done_by (result_map_both (λ u. u) (λ c. blame c p) n) i (ledger_at s v)
        ≡ placed_as stood (length s) (elim o as (λ z. Got Ledger) [ none ↦ got (kept x r) (drop i s) | some f ↦ fault f (length s - p) ])
    go none (z, e) =
        ap (λ (q : Result (Unit {0}) Cause). done_by (result_map_both (λ u. u) (λ c. blame c p) q) i (ledger_at s v)) z
        ∙ ap (λ (y : Ledger). fine (stood y i)) e ∙ got_on (return (kept x r)) s i i l refl
    go (some f) z =
        ap (λ (q : Result (Unit {0}) Cause). done_by (result_map_both (λ u. u) (λ c. blame c p) q) i (ledger_at s v)) z
        ∙ fault_on (fault_at {A = Ledger} f (length s - p)) s i f p (length s - p) (omega arith) refl

pub given_by : (s : Text) (p place : ℕ) (k : Item) (w : List ℕ) (n : Result (Unit {0}) Cause) (r : Result (Unit {0}) Blame) (v : List ℕ) → p ≤ length s
    → Judged s w (number_of k) place n v → (Made : Cause → Blame → Type 0) → ((c : Cause) (d : Blame) → Made c d → d ≡ blame c p)
    → MatchResult n (λ x. r ≡ Ok x) (λ c. IsErrAnd r (λ d. Made c d)) → Given s p place k w r v
given_by s p place k w n r v h j Made made b =
    rw (blames_done p Made made n r b) (record { answer = λ i l. added_on s p i (ledger_at s w) (record_by s (number_of k) place) n v j h l; faults = there n; fits = j.fits })
  where
    there : (n : Result (Unit {0}) Cause) → FaultsAt p (result_map_both (λ u. u) (λ c. blame c p) n)
    there (Ok u) = tt
    there (Err c) = refl

-- ---- what an element does where it begins
module _ (s : Text) (p : ℕ) (w : List ℕ) (h : p ≤ length s) where
  module _ (short : length s ≤ 65536) (f : Fits w) where
    pub offered_open : Offered s w 1 p (bytes "open")
    unfolding field_by
    offered_open = record { file = short; kind = omega arith; place = omega arith; text = refl; fits = f }

    pub offered_none : Offered s w 4 p []
    unfolding field_by
    offered_none = record { file = short; kind = omega arith; place = omega arith; text = refl; fits = f }

  module _ (e : Effect) (r : Result (Unit {0}) Blame) (v : List ℕ) where
    pub begin_constraint : e ≡ E.Opens → Given s p p I.Open w r v → Done s p e w r v
    unfolding doing field_by
    begin_constraint z g = rw z (record { answer = g.answer; faults = g.faults; fits = g.fits })

    pub begin_collection : e ≡ E.Collects → Given s p p I.Collection w r v → Done s p e w r v
    unfolding doing field_by
    begin_collection z g = rw z (record { answer = g.answer; faults = g.faults; fits = g.fits })

  pub begin_guard : (e : Effect) (v : List ℕ) → e ≡ E.Guards → Guarded w v → Done s p e w (Ok tt) v
  unfolding doing
  begin_guard e v z g = rw z (record {
    answer = λ i l. ap (λ (y : Ledger). fine (stood y i)) (g.ledger s) ∙ got_on (return (marked (ledger_at s w))) s i i l refl;
    faults = tt;
    fits = g.fits;
  })

  pub begin_nothing : (e : Effect) → e ≡ E.Nothing → Fits w → Done s p e w (Ok tt) w
  unfolding doing
  begin_nothing e z f = rw z (record { answer = λ i l. got_on (return (ledger_at s w)) s i i l refl; faults = tt; fits = f })

-- ---- the record of a text
module _ (s : Text) (p place i : ℕ) (k : Leaf) (t : Text) (w : List ℕ) (h : Saying s p place i k.item t w) (v : List ℕ) where
  abbrev says_to : Result Went Blame → Type 0
  says_to r = Gone s (read_on (adding_at (length s - p) (phase_at k.next) (kind_by (number_of k.item)) t (ledger_at s w)) s i) r v

  added_text : (r : Result (Unit {0}) Blame) → Given s p place k.item w r v
      → done_by r i (ledger_at s v) ≡ read_on (adding ledgered (length s - p) (record_of (kind_by (number_of k.item)) t) (ledger_at s w)) s i
  added_text r g =
      g.answer i h.within
      ∙ ap (λ (u : Text). read_on (adding ledgered (length s - p) (record_of (kind_by (number_of k.item)) u) (ledger_at s w)) s i) h.offered.text

  pub say_stops : (e : Blame) → Given s p place k.item w (Err e) v → says_to (Err e)
  say_stops e g = record {
    answer = on_stops (adding ledgered (length s - p) (record_of (kind_by (number_of k.item)) t) (ledger_at s w)) s i _ e (added_text (Err e) g);
    within = omega (arith, g.faults, h.here);
    fits = g.fits;
  }

  pub say_goes : Given s p place k.item w (Ok tt) v → says_to (Ok (record { next = i; phase = k.next }))
  say_goes g = record {
    answer =
        on_goes (adding ledgered (length s - p) (record_of (kind_by (number_of k.item)) t) (ledger_at s w)) s i _
        (adding_leaves ledgered (length s - p) (record_of (kind_by (number_of k.item)) t) (ledger_at s w)) (ledger_at s v) i _ (added_text (Ok tt) g)
        (got_on (return (reached_at s k.next v)) s i i h.within refl);
    within = h.within;
    fits = g.fits;
  }

-- ---- a text and its second tag
module _ (s : Text) (p : ℕ) (t : Start) where
  abbrev letters_there : Text
  letters_there = read_or [] (letters (length s - p)) s t.next

  module _ (h : Tagged s p t) where
    pub tagged_begun : p ≤ t.next
    tagged_begun = omega (arith, h.opening.low, h.opening.high)

  module _ (full : t.full ≡ true) where
    pub tell_stops : (e : Blame) → Err e ≡ read_as gathered (letters (length s - p)) s t.next → Err e ≡ read_on (telling (length s - p) (opened_by s p t)) s t.next
    unfolding telling
    tell_stops e h = on_true t.full _ _ s t.next _ full (at_stops (letters (length s - p)) s t.next _ gathered e h)

    module _ (g : Gathered) (e : Ok g ≡ read_as gathered (letters (length s - p)) s t.next) where
      closed : (r : Going Text) → r ≡ read_on (second_tag (part (p + 1) t.end s) >> return (text_at s t.next)) s g.next → r ≡ read_on (telling (length s - p) (opened_by s p t)) s t.next
      unfolding telling
      closed r h =
          let w = steps.went_as (letters (length s - p)) s t.next (letters_leaves (length s - p)) gathered g e in
          on_true t.full _ _ s t.next _ full
          (got_goes (letters (length s - p)) s t.next (λ v. second_tag (part (p + 1) t.end s) >> return (trimmed v)) g.next r
          (w.1.1.1 ∙ ap (λ (z : Gathered). got w.0 (drop z.next s)) (sym w.1.1.0))
          (h
          ∙ ap (λ (u : Text). read_on (second_tag (part (p + 1) t.end s) >> return u) s g.next)
          (text_read (length s - p) s t.next ∙ ap trimmed (sym (got_value (letters (length s - p)) s t.next [] w.1.1.1)))))

      pub tell_unclosed : (d : Blame) → Err d ≡ read_at (second_tag (part (p + 1) t.end s)) s g.next → Err d ≡ read_on (telling (length s - p) (opened_by s p t)) s t.next
      tell_unclosed d h = closed (Err d) (at_stops (second_tag (part (p + 1) t.end s)) s g.next (λ u. return (text_at s t.next)) (λ a k. k) d h)

      pub tell_closes : (n : ℕ) → Ok n ≡ read_at (second_tag (part (p + 1) t.end s)) s g.next → Within s g.next n
          → Ok (stood (text_at s t.next) n) ≡ read_on (telling (length s - p) (opened_by s p t)) s t.next
      tell_closes n h l =
          closed (Ok (stood (text_at s t.next) n))
          (at_returns (second_tag (part (p + 1) t.end s)) (text_at s t.next) s g.next (second_tag_leaves (part (p + 1) t.end s)) n h l.high)

      pub tell_size : g.len ≡ length (text_at s t.next)
      tell_size = gathered_size (length s - p) s t.next g e

  -- beside a fault in the text there is none
  pub tell_none : (e : Blame) (out : Text) → Err e ≡ read_as gathered (letters (length s - p)) s t.next → take (length (text_at s t.next)) out ≡ text_at s t.next
  tell_none e out h = rw (refused_none (length s - p) s t.next e h) refl

  -- what the buffer has of the letters there, it has of the text
  pub tell_text : (n : ℕ) (out : Text) → (n ≤ length out → take n out ≡ trimmed letters_there) → n ≤ length out → take n out ≡ text_at s t.next
  tell_text n out f l = f l ∙ sym (text_read (length s - p) s t.next)

  -- and one that was gathered stands in the buffer
  pub tell_stands : (g : Gathered) (out : Text) → Ok g ≡ read_as gathered (letters (length s - p)) s t.next → (g.len ≤ length out → take g.len out ≡ trimmed letters_there)
      → length (text_at s t.next) ≤ length out → take (length (text_at s t.next)) out ≡ text_at s t.next
  tell_stands g out e f l =
      let z : g.len ≡ length (text_at s t.next) = gathered_size (length s - p) s t.next g e in
      ap (λ (n : ℕ). take n out) (sym z) ∙ tell_text g.len out f (rw z l)

-- ---- the kinds of records that have a text
module _ (k : ℕ) (h : is_text_kind k ≡ true) where
  not_kind : (j : ℕ) → is_text_kind j ≡ false → k ≡ j → ⊥
  not_kind j f e = false≢true (sym f ∙ ap is_text_kind (sym e) ∙ h)

  kind_small : k < 8
  kind_small = go (dec_lt k 8)
    where
      go : Dec (k < 8) → k < 8
      go (yes l) = l
      go (no l) =
          absurd (false≢true (sym (rw (ne_eqb k 0 (λ e. omega arith), ne_eqb k 3 (λ e. omega arith), ne_eqb k 5 (λ e. omega arith), ne_eqb k 6 (λ e. omega arith), ne_eqb k 7 (λ e. omega arith))) ∙ h))

  field_text : (s : Text) (p : ℕ) → field_by s k p ≡ text_at s p
  unfolding field_by
  field_text s p = rw (ne_eqb k 1 (not_kind 1 refl), ne_eqb k 2 (not_kind 2 refl), ne_eqb k 4 (not_kind 4 refl))

-- ---- a text of over 255 bytes breaks a rule
and_no : (a b : Bool) → b ≡ false → (a && b) ≡ false
and_no true b e = e
and_no false b e = refl

no_and : (a b : Bool) → a ≡ false → (a && b) ≡ false
no_and a b e = ap (λ (c : Bool). c && b) e

module _ (t : Text) (long : 255 < length t) where
  long_made : (class : ℕ → Bool) (lo hi : ℕ) → hi ≤ 255 → made_of class lo hi t ≡ false
  long_made class lo hi h = no_and _ (all class t) (and_no (leb lo (length t)) (leb (length t) hi) (lt-leb (length t) hi (omega arith)))

  long_name : is_name t ≡ false
  unfolding is_name
  long_name = no_and _ _ (long_made is_text 1 64 (omega arith))

  long_role : is_role_name t ≡ false
  unfolding is_role_name
  long_role = no_and (is_name t) _ long_name

  long_method : is_method_name t ≡ false
  unfolding is_method_name
  long_method = long_made is_token 1 24 (omega arith)

  long_pattern : is_pattern t ≡ false
  unfolding is_pattern
  long_pattern = no_and _ _ (long_made is_text 0 255 (omega arith))

  module _ (x : Ledger) where
    abbrev Broken : ℕ → Type 0
    Broken k = ledger_fault x (record_of (kind_by k) t) ≡ some (long_fault k)

    broken_0 : Broken 0
    unfolding ledger_fault name_fits
    broken_0 = rw long_role

    broken_3 : Broken 3
    unfolding ledger_fault name_fits
    broken_3 = rw long_name

    broken_5 : Broken 5
    unfolding ledger_fault name_fits pattern_fits
    broken_5 = rw long_pattern

    broken_6 : Broken 6
    unfolding ledger_fault name_fits
    broken_6 = rw long_method

    broken_7 : Broken 7
    unfolding ledger_fault name_fits
    broken_7 = rw long_method

    broken : (k : ℕ) → is_text_kind k ≡ true → Broken k
    broken k h = go (ℕ_discrete k 0) (ℕ_discrete k 3) (ℕ_discrete k 5) (ℕ_discrete k 6) (ℕ_discrete k 7)
      where
        go : Dec (k ≡ 0) → Dec (k ≡ 3) → Dec (k ≡ 5) → Dec (k ≡ 6) → Dec (k ≡ 7) → Broken k
        go (yes e) b c d f = subst Broken (sym e) broken_0
        go (no a) (yes e) c d f = subst Broken (sym e) broken_3
        go (no a) (no b) (yes e) d f = subst Broken (sym e) broken_5
        go (no a) (no b) (no c) (yes e) f = subst Broken (sym e) broken_6
        go (no a) (no b) (no c) (no d) (yes e) = subst Broken (sym e) broken_7
        go (no a) (no b) (no c) (no d) (no f) = absurd (false≢true (sym (rw (ne_eqb k 0 a, ne_eqb k 3 b, ne_eqb k 5 c, ne_eqb k 6 d, ne_eqb k 7 f)) ∙ h))

long_on : (s : Text) (p i k : ℕ) (x : Ledger) (t : Text) → is_text_kind k ≡ true → 255 < length t → p ≤ length s
    → Err (blame (cause_of (long_fault k)) p) ≡ read_on (adding ledgered (length s - p) (record_of (kind_by k) t) x) s i
unfolding adding
long_on s p i k x t h l g =
    fault_on (adding ledgered (length s - p) (record_of (kind_by k) t) x) s i (long_fault k) p (length s - p) (omega arith)
    (ap (λ (o : Option Fault). elim o as (λ z. Got Ledger) [ none ↦ got (kept x (record_of (kind_by k) t)) (drop i s) | some f ↦ fault f (length s - p) ]) (broken t l x k h))

-- ---- an element that is a text
pub entered_tagged : (s : Text) (p : ℕ) (t : Start) (w : List ℕ) → Entered s p t w → Tagged s p t
entered_tagged s p t w e = e.tag

module _ (s : Text) (p : ℕ) (t : Start) (w : List ℕ) (e : Entered s p t w) (k : Leaf) (kind : is_text_kind (number_of k.item) ≡ true) where
  abbrev text_to : Result Went Blame → List ℕ → Type 0
  text_to r v = Gone s (read_on (saying_at (length s - p) (opened_by s p t) (phase_at k.next) (kind_by (number_of k.item)) (ledger_at s w)) s t.next) r v

  abbrev told : Going Text
  told = read_on (telling (length s - p) (opened_by s p t)) s t.next

  here : p ≤ length s
  here = omega (arith, tagged_begun s p t e.tag, e.tag.within)

  offered_text : (i : ℕ) (u : Text) → i ≤ length s → text_at s i ≡ u → Offered s w (number_of k.item) i u
  offered_text i u l f =
      record { file = e.tag.short; kind = kind_small (number_of k.item) kind; place = omega (arith, e.tag.short); text = field_text (number_of k.item) kind s i ∙ f; fits = e.fits }

  pub text_stops : (b : Blame) → Err b ≡ told → b.at ≤ length s → text_to (Err b) w
  text_stops b h l = record {
    answer = on_stops (telling (length s - p) (opened_by s p t)) s t.next _ b h;
    within = l;
    fits = e.fits;
  }

  module _ (n : ℕ) (is : Ok (stood (text_at s t.next) n) ≡ told) (l : n ≤ length s) where
    goes_on_lem : (g : Going (Reached Ledger)) → g ≡ read_on (adding_at (length s - p) (phase_at k.next) (kind_by (number_of k.item)) (text_at s t.next) (ledger_at s w)) s n
        → g ≡ read_on (saying_at (length s - p) (opened_by s p t) (phase_at k.next) (kind_by (number_of k.item)) (ledger_at s w)) s t.next
    goes_on_lem g h = on_goes (telling (length s - p) (opened_by s p t)) s t.next _ (telling_leaves (length s - p) (opened_by s p t)) (text_at s t.next) n g is h

    pub text_long : (m : ℕ) (c : Cause) → m ≡ length (text_at s t.next) → 255 < m → c ≡ cause_of (long_fault (number_of k.item)) → text_to (Err (blame c p)) w
    text_long m c a b z = rw z (record {
      answer =
          goes_on_lem _ (on_stops (adding ledgered (length s - p) (record_of (kind_by (number_of k.item)) (text_at s t.next)) (ledger_at s w)) s n _ (blame (cause_of (long_fault (number_of k.item))) p)
          (long_on s p n (number_of k.item) (ledger_at s w) (text_at s t.next) kind (omega arith) here));
      within = here;
      fits = e.fits;
    })

    module _ (m : ℕ) (out : Text) (short : m ≤ 255) (room : length out ≡ 256) (text : m ≤ length out → take m out ≡ text_at s t.next) where
      text_is : take m out ≡ text_at s t.next
      text_is = text (omega arith)

      pub text_saying : Saying s p t.next n k.item (take m out) w
      text_saying = record { offered = offered_text t.next (take m out) e.tag.within (sym text_is); here = here; within = l }

      pub text_said : (r : Result Went Blame) (v : List ℕ)
          → Gone s (read_on (adding_at (length s - p) (phase_at k.next) (kind_by (number_of k.item)) (take m out) (ledger_at s w)) s n) r v → text_to r v
      text_said r v h = record {
        answer = goes_on_lem _ (h.answer ∙ ap (λ (u : Text). read_on (adding_at (length s - p) (phase_at k.next) (kind_by (number_of k.item)) u (ledger_at s w)) s n) text_is);
        within = h.within;
        fits = h.fits;
      }

    -- the same of a text that stands whole in the buffer, and has m bytes
    module _ (m : ℕ) (out : Text) (size : m ≡ length (text_at s t.next)) (short : m ≤ 255) (room : length out ≡ 256)
        (text : length (text_at s t.next) ≤ length out → take (length (text_at s t.next)) out ≡ text_at s t.next) where
      by_size : m ≤ length out → take m out ≡ text_at s t.next
      by_size l = ap (λ (n : ℕ). take n out) size ∙ text (rw (← size) l)

      pub sized_saying : Saying s p t.next n k.item (take m out) w
      sized_saying = text_saying m out short room by_size

      pub sized_said : (r : Result Went Blame) (v : List ℕ)
          → Gone s (read_on (adding_at (length s - p) (phase_at k.next) (kind_by (number_of k.item)) (take m out) (ledger_at s w)) s n) r v → text_to r v
      sized_said r v h = text_said m out short room by_size r v h

  -- no text stands where the tag does
  tag_goes_not_on : goes_on (drop p s) ≡ false
  tag_goes_not_on = go (ok_got (subst (Accepts (Reads Opens (drop p s))) e.tag.opening.read (start_tag_ok (drop p s))))
    where
      split : (u r : Text) → Opens (opened_by s p t) u → goes_on (u ++ r) ≡ false
      split u r (opens v tag) = ap goes_on (append_assoc v (end_of t.full) r) ∙ tag_goes_not (end_of t.full ++ r) tag

      go : Reads Opens (drop p s) (opened_by s p t) (drop t.next s) → goes_on (drop p s) ≡ false
      go h = ap goes_on h.split ∙ split h.used (drop t.next s) h.spelt

  no_text : text_at s p ≡ []
  unfolding text_at letters trimmed trim_end after
  no_text =
      ap (λ (g : Got Text). elim g as (λ z. Text) [ got v r ↦ trimmed v | fault d n ↦ [] ])
      (walk_ends goes_on (piece 0) goes_none (λ a x i. piece_less 0 a x) [] (drop p s) tag_goes_not_on)

  module _ (z : t.full ≡ false) where
    pub empty_saying : Saying s p p t.next k.item [] w
    empty_saying = record { offered = offered_text p [] here no_text; here = here; within = e.tag.within }

    pub empty_said : (r : Result Went Blame) (v : List ℕ)
        → Gone s (read_on (adding_at (length s - p) (phase_at k.next) (kind_by (number_of k.item)) [] (ledger_at s w)) s t.next) r v → text_to r v
    unfolding telling
    empty_said r v h = record {
      answer =
          got_goes (telling (length s - p) (opened_by s p t)) s t.next (λ u. adding_at (length s - p) (phase_at k.next) (kind_by (number_of k.item)) u (ledger_at s w)) t.next _
          (run_false _ _ _ (drop t.next s) z refl) h.answer;
      within = h.within;
      fits = h.fits;
    }
