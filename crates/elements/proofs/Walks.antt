-- The laws of nodes, contents and elements at places, one for each way out of a function.
use mathlib.Core.Path.{◌≡◌, refl, sym, ap, ap₂, ◌∙◌}
use mathlib.Core.Bool.{Bool, true, false, not, ◌||◌}
use mathlib.Core.List.{List}
use Prim.Native.Nat.{ℕ, zero, suc, ◌+◌, ◌-◌, ◌≤◌, ◌<◌}
use native.Mathlib.Omega.{arith}
use lib.Dec.{eqb}
use lib.ListN.{length, drop, length-drop}
use borrow.Author.Tests.{not-true, not-false}
use Rattle.std.specs.Prelude.{Result, Ok, Err}
use Rattle.text.specs.Texts.{Text, bytes, part, starts_with}
use Rattle.documents.specs.Chars.{is_white, next, after}
use Rattle.documents.specs.Parts.{got, fault, malformed, deep, unwanted, Reader, ◌>>=◌, ◌>>◌, return, fault_at, choose, blamed, letter_of, comment, start_tag, second_tag, ends}
use Rattle.documents.proofs.Steps.{run_true, run_false}
use Rattle.documents.proofs.Leaves.{letter_leaves, comment_leaves, second_tag_leaves}
use Rattle.markup.specs.declared.answers.Cause.TheVariants.{Malformed, Deep, Unwanted}
use Rattle.markup.specs.declared.answers.Fault.{Fault as Blame}
use Rattle.markup.specs.declared.answers.Letter.{Letter}
use Rattle.markup.specs.declared.answers.Start.{Start}
use Rattle.markup.specs.Places.{blame, placed_as, read_as, read_at, Within, letter, start_at, Opening}
use Rattle.markup.proofs.Steps as steps
use Rattle.markup.proofs.Values.{letter_went}
use Rattle.portals.specs.Elements as Does
use Rattle.portals.specs.Elements.{phase_number, sort_of, opening, is_complete}
use Rattle.portals.specs.Means.{may_stand}
use Rattle.portals.specs.Readings.{Reached, reached, doing, complete, closing, filling, entering, sinking, straying, node_in, content_in, element_in}
use Rattle.ledger.specs.Ledgers.{Ledger, ledgered}
use Rattle.ledger.specs.Places.{kind_by, number_of, ledger_at, Fits}
use Rattle.elements.specs.declared.giving.Went.{Went}
use Rattle.elements.specs.declared.rows.Phase.{Phase}
use Rattle.elements.specs.declared.rows.Phase.TheVariants.{PassedOver}
use Rattle.elements.specs.declared.rows.Sort.{Sort}
use Rattle.elements.specs.declared.rows.Holder.{Holder}
use Rattle.elements.specs.declared.rows.Leaf.{Leaf}
use Rattle.elements.specs.declared.rows.Opening.{Opening as Row}
use Rattle.elements.specs.declared.rows.Opening.TheVariants as O
use Rattle.elements.specs.Rows.{phase_at, passing, sort_at, effect_at, opening_of}
use Rattle.elements.specs.Goings.{Going, stood, read_on, shown_by, reached_at, Ready, Entered, Gone, Passes, Done, opened_by, content_at, element_at, filling_at, holding_at, saying_at, entering_at}
use Rattle.elements.proofs.Goings.{got_on, fault_on, same_on, on_stops, at_stops, got_goes, on_goes, at_returns, less_on, on_true, on_false, on_over, on_halts, on_turns}
use Rattle.elements.proofs.Passings.{content_passed, not_passed, or_true}
use Rattle.elements.proofs.Leavings.{leaves_blamed, doing_leaves, filling_leaves, contents_leave, nodes_leave, node_less}

-- ---- a byte of text
module _ (s : Text) (i h : ℕ) (q : Phase) (x : Ledger) where
  abbrev strays : Reader (Reached Ledger)
  strays = straying (length s - h) (reached (phase_at q) x)

  pub stray_stops : (e : Blame) → Err e ≡ read_as letter (blamed (length s - h) letter_of) s i → Err e ≡ read_on strays s i
  unfolding straying
  stray_stops e f = at_stops (blamed (length s - h) letter_of) s i _ letter e f

  module _ (b : Letter) (e : Ok b ≡ read_as letter (blamed (length s - h) letter_of) s i) where
    letter_was : blamed (length s - h) letter_of (drop i s) ≡ got b.byte (drop b.next s)
    letter_was = letter_went (blamed (length s - h) letter_of) s i (leaves_blamed (length s - h) letter_of letter_leaves) b e

    passes : may_stand (phase_at q) b.byte ≡ true → Within s h b.next → Ok (stood (reached (phase_at q) x) b.next) ≡ read_on strays s i
    unfolding straying
    passes t l =
        got_goes (blamed (length s - h) letter_of) s i _ b.next _ letter_was
        (on_true _ (return (reached (phase_at q) x)) (fault_at malformed (length s - h)) s b.next _ t (got_on (return (reached (phase_at q) x)) s b.next b.next l.high refl))

    pub stray_white : (t : Bool) → t ≡ is_white b.byte → t ≡ true → Within s h b.next → Ok (stood (reached (phase_at q) x) b.next) ≡ read_on strays s i
    stray_white t f y l = passes (ap (λ (c : Bool). c || eqb (phase_number (phase_at q)) 11) (sym f ∙ y)) l

    pub stray_passed : q ≡ PassedOver → Within s h b.next → Ok (stood (reached (phase_at q) x) b.next) ≡ read_on strays s i
    stray_passed g l = passes (ap (λ (p : Phase). may_stand (phase_at p) b.byte) g ∙ or_true (is_white b.byte)) l

    pub stray_wrong : (t : Bool) → t ≡ is_white b.byte → t ≡ false → (q ≡ PassedOver → ⊥) → i ≤ length s → h ≤ i → (d : Blame) → d ≡ blame Malformed h → Err d ≡ read_on strays s i
    unfolding straying
    stray_wrong t f y g l m d z =
        let no : may_stand (phase_at q) b.byte ≡ false = ap (λ (c : Bool). c || eqb (phase_number (phase_at q)) 11) (sym f ∙ y) ∙ not_passed q g in
        rw z (got_goes (blamed (length s - h) letter_of) s i _ b.next _ letter_was
        (on_false _ (return (reached (phase_at q) x)) (fault_at malformed (length s - h)) s b.next _ no (fault_on _ s b.next malformed h (length s - h) (omega arith) refl)))

-- ---- the end of an element
module _ (s : Text) (i n : ℕ) (q : Phase) (x : Ledger) (t : Bool) (e : t ≡ is_complete (phase_at q)) where
  abbrev ends_to : Result ℕ Blame → Type 0
  ends_to r = shown_by r (reached (phase_at q) x) ≡ read_on (complete (length s - i) (reached (phase_at q) x)) s n

  pub ends_whole : t ≡ true → n ≤ length s → ends_to (Ok n)
  unfolding complete
  ends_whole z l = on_true _ (return (reached (phase_at q) x)) (fault_at malformed (length s - i)) s n _ (sym e ∙ z) (got_on (return (reached (phase_at q) x)) s n n l refl)

  pub ends_missing : t ≡ false → i ≤ length s → (d : Blame) → d ≡ blame Malformed i → ends_to (Err d)
  unfolding complete
  ends_missing z l d y =
      rw y (on_false _ (return (reached (phase_at q) x)) (fault_at malformed (length s - i)) s n _ (sym e ∙ z) (fault_on _ s n malformed i (length s - i) (omega arith) refl))

module _ (s : Text) (i : ℕ) (m : Text) (q : Phase) (x : Ledger) where
  abbrev closes_to : Result ℕ Blame → Type 0
  closes_to r = shown_by r (reached (phase_at q) x) ≡ read_on (closing m (reached (phase_at q) x)) s i

  pub close_stops : (d : Blame) → Err d ≡ read_at (second_tag m) s i → closes_to (Err d)
  unfolding closing read_as
  close_stops d is = at_stops (second_tag m) s i (λ u. complete (length (drop i s)) (reached (phase_at q) x)) (λ a k. k) d is

  pub close_ends : (n : ℕ) → Ok n ≡ read_at (second_tag m) s i → (r : Result ℕ Blame)
      → ((x : Ledger) → shown_by r (reached (phase_at q) x) ≡ read_on (complete (length s - i) (reached (phase_at q) x)) s n) → closes_to r
  unfolding closing read_as
  close_ends n is r f =
      let w = steps.went (second_tag m) s i (second_tag_leaves m) n is in
      got_goes (second_tag m) s i (λ u. complete (length (drop i s)) (reached (phase_at q) x)) n _ w.1
      (f x ∙ ap (λ (k : ℕ). read_on (complete k (reached (phase_at q) x)) s n) (sym (length-drop i s)))

-- ---- what a first tag comes to
pub row_there : (o : Does.Opening) (q : Phase) (k : Sort) (n : Text) → o ≡ opening (phase_at q) (sort_at k) → sort_at k ≡ sort_of n → o ≡ opening (phase_at q) (sort_of n)
row_there o q k n e f = e ∙ ap (opening (phase_at q)) f

-- ---- nodes
module _ (s : Text) (i h : ℕ) (q : Phase) (w : List ℕ) (d : ℕ) (t : Bool) (is : t ≡ next (eqb 60) (drop i s)) (r : Ready s i h w) where
  abbrev node_to : Result Went Blame → List ℕ → Type 0
  node_to g v = Gone s (read_on (node_in (element_at d) (length s - h) (reached_at s q w)) s i) g v

  strayed : t ≡ false → read_on (straying (length s - h) (reached_at s q w)) s i ≡ read_on (node_in (element_at d) (length s - h) (reached_at s q w)) s i
  unfolding node_in
  strayed z =
      same_on (straying (length s - h) (reached_at s q w)) s i (node_in (element_at d) (length s - h) (reached_at s q w)) (sym (run_false _ _ _ (drop i s) (sym is ∙ z) refl))

  module _ (z : t ≡ false) where
    pub stray_faults : (e : Blame) → e.at ≤ length s → Passes s q (straying (length s - h)) i (Err e) → node_to (Err e) w
    stray_faults e l f = record { answer = f (ledger_at s w) ∙ strayed z; within = l; fits = r.fits }

    pub stray_read : (n : ℕ) → n ≤ length s → Passes s q (straying (length s - h)) i (Ok n) → node_to (Ok (record { next = n; phase = q })) w
    stray_read n l f = record { answer = f (ledger_at s w) ∙ strayed z; within = l; fits = r.fits }

  module _ (z : t ≡ true) (u : Bool) (c : u ≡ starts_with (bytes "<!--") (drop i s)) where
    tagged : (m : Reader (Reached Ledger)) → (choose (bytes "<!--") (comment >> return (reached_at s q w)) (element_at d (reached_at s q w))) (drop i s) ≡ m (drop i s)
        → read_on m s i ≡ read_on (node_in (element_at d) (length s - h) (reached_at s q w)) s i
    unfolding node_in
    tagged m e = same_on m s i (node_in (element_at d) (length s - h) (reached_at s q w)) (sym (run_true _ _ _ (drop i s) (sym is ∙ z) e))

    remarked : u ≡ true → read_on (comment >> return (reached_at s q w)) s i ≡ read_on (node_in (element_at d) (length s - h) (reached_at s q w)) s i
    remarked y = tagged (comment >> return (reached_at s q w)) (run_true _ _ _ (drop i s) (sym c ∙ y) refl)

    pub comment_faults : (e : Blame) → u ≡ true → Err e ≡ read_at comment s i → Within s i e.at → node_to (Err e) w
    comment_faults e y f l = record { answer = at_stops comment s i (λ a. return (reached_at s q w)) (λ a k. k) e f ∙ remarked y; within = l.high; fits = r.fits }

    pub comment_read : (n : ℕ) → u ≡ true → Ok n ≡ read_at comment s i → Within s i n → node_to (Ok (record { next = n; phase = q })) w
    comment_read n y f l = record { answer = at_returns comment (reached_at s q w) s i comment_leaves n f l.high ∙ remarked y; within = l.high; fits = r.fits }

    pub node_element : (g : Result Went Blame) (v : List ℕ) → u ≡ false → Gone s (read_on (element_at d (reached_at s q w)) s i) g v → node_to g v
    node_element g v y e = record {
      answer = e.answer ∙ tagged (element_at d (reached_at s q w)) (run_false _ _ _ (drop i s) (sym c ∙ y) refl);
      within = e.within;
      fits = e.fits;
    }

-- ---- contents
-- before the first turn
module _ (s : Text) (i h n : ℕ) (w : List ℕ) (r : Ready s i h w) where
  pub ready_passed : Within s i n → Ready s n h w
  ready_passed l = record { within = l.high; begun = omega (arith, l.low, r.begun); short = r.short; fits = r.fits }

pub content_starts : (s : Text) (i h n : ℕ) (q : Phase) (w : List ℕ) (d : ℕ) → drop n s ≡ after (passing q) (drop i s)
    → read_on (content_at d (length s - h) (reached_at s q w)) s i ≡ read_on (content_at d (length s - h) (reached_at s q w)) s n
content_starts s i h n q w d e = content_passed s d h i n q w e

module _ (s : Text) (d h n : ℕ) (p : Phase) (w : List ℕ) (due : Going (Reached Ledger))
    (inv : due ≡ read_on (content_at d (length s - h) (reached_at s p w)) s n) (r : Ready s n h w) (t : Bool) (over : t ≡ ends (drop n s)) where
  pub content_over : not t ≡ false → Gone s due (Ok (record { next = n; phase = p })) w
  unfolding content_in ends
  content_over z = record {
    answer =
        on_over (λ x. not (ends x)) (node_in (element_at d) (length s - h)) refl (λ a x e. node_less ledgered d (length s - h) a x) s n (reached_at s p w) r.within (ap not (sym over) ∙ z)
        ∙ sym inv;
    within = r.within;
    fits = r.fits;
  }

  module _ (z : not t ≡ true) (v : List ℕ) where
    pub content_stops : (e : Blame) → Gone s (read_on (node_in (element_at d) (length s - h) (reached_at s p w)) s n) (Err e) v → Gone s due (Err e) v
    unfolding content_in ends
    content_stops e g = record {
      answer =
          on_halts (λ x. not (ends x)) (node_in (element_at d) (length s - h)) refl (λ a x e. node_less ledgered d (length s - h) a x) s n (reached_at s p w) e
          (ap not (sym over) ∙ z) g.answer
          ∙ sym inv;
      within = g.within;
      fits = g.fits;
    }

    module _ (k : Went) (g : Gone s (read_on (node_in (element_at d) (length s - h) (reached_at s p w)) s n) (Ok k) v)
        (m : ℕ) (e : drop m s ≡ after (passing k.phase) (drop k.next s)) (l : Within s k.next m) where
      pub content_turns : due ≡ read_on (content_at d (length s - h) (reached_at s k.phase v)) s m
      unfolding content_in ends
      content_turns =
          inv
          ∙ on_turns (λ x. not (ends x)) (node_in (element_at d) (length s - h)) refl (λ a x e. node_less ledgered d (length s - h) a x) s n (reached_at s p w) (reached_at s k.phase v) k.next
          (ap not (sym over) ∙ z) g.answer (nodes_leave ledgered d (length s - h) (reached_at s p w))
          ∙ content_passed s d h k.next m k.phase v e

      pub content_less : length s - m < length s - n
      content_less =
          omega (
            arith,
            l.low,
            l.high,
            less_on (node_in (element_at d) (length s - h) (reached_at s p w)) s n
                (nodes_leave ledgered d (length s - h) (reached_at s p w)) (node_less ledgered d (length s - h) (reached_at s p w)) (reached_at s k.phase v) k.next g.answer,
          )

      pub content_ready : Ready s m h v
      content_ready = record { within = l.high; begun = omega (arith, content_less, r.begun); short = r.short; fits = g.fits }

-- ---- behind a first tag
module _ (s : Text) (i : ℕ) (t : Start) (w : List ℕ) (e : Entered s i t w) where
  pub tag_here : i ≤ length s
  tag_here = let h = e.tag in omega (arith, h.opening.low, h.opening.high, h.within)

  module _ (d : ℕ) (q : Phase) where
    abbrev fills_to : Result Went Blame → List ℕ → Type 0
    fills_to g v = Gone s (read_on (filling_at d (length s - i) (opened_by s i t) (reached_at s q w)) s t.next) g v

    module _ (z : not t.full ≡ true) where
      pub ended_faults : (b : Blame) → b.at ≤ length s → Passes s q (complete (length s - i)) t.next (Err b) → fills_to (Err b) w
      unfolding filling
      ended_faults b l f = record { answer = on_false t.full _ (complete (length s - i) (reached_at s q w)) s t.next _ (not-true t.full z) (f (ledger_at s w)); within = l; fits = e.fits }

      pub ended_whole : (n : ℕ) → n ≤ length s → Passes s q (complete (length s - i)) t.next (Ok n) → fills_to (Ok (record { next = n; phase = q })) w
      unfolding filling
      ended_whole n l f = record { answer = on_false t.full _ (complete (length s - i) (reached_at s q w)) s t.next _ (not-true t.full z) (f (ledger_at s w)); within = l; fits = e.fits }

    module _ (z : not t.full ≡ false) (v : List ℕ) where
      pub filling_stops : (b : Blame) → Gone s (read_on (content_at d (length s - i) (reached_at s q w)) s t.next) (Err b) v → fills_to (Err b) v
      unfolding filling
      filling_stops b g = record {
        answer =
            on_true t.full _ _ s t.next _ (not-false t.full z)
            (on_stops (content_at d (length s - i) (reached_at s q w)) s t.next (closing (part (i + 1) t.end s)) b g.answer);
        within = g.within;
        fits = g.fits;
      }

      module _ (c : Went) (g : Gone s (read_on (content_at d (length s - i) (reached_at s q w)) s t.next) (Ok c) v) where
        closed : (r : Going (Reached Ledger)) → r ≡ read_on (closing (part (i + 1) t.end s) (reached_at s c.phase v)) s c.next
            → r ≡ read_on (filling_at d (length s - i) (opened_by s i t) (reached_at s q w)) s t.next
        unfolding filling
        closed r h =
            on_true t.full _ _ s t.next _ (not-false t.full z)
            (on_goes (content_at d (length s - i) (reached_at s q w)) s t.next (closing (part (i + 1) t.end s))
            (contents_leave ledgered d (length s - i) (reached_at s q w)) (reached_at s c.phase v) c.next r g.answer h)

        pub closing_faults : (b : Blame) → b.at ≤ length s → Passes s c.phase (closing (part (i + 1) t.end s)) c.next (Err b) → fills_to (Err b) v
        closing_faults b k h = record { answer = closed (Err b) (h (ledger_at s v)); within = k; fits = g.fits }

        pub filling_closes : (n : ℕ) → n ≤ length s → Passes s c.phase (closing (part (i + 1) t.end s)) c.next (Ok n)
            → fills_to (Ok (record { next = n; phase = c.phase })) v
        filling_closes n k h = record { answer = closed (Ok (stood (reached_at s c.phase v) n)) (h (ledger_at s v)); within = k; fits = g.fits }

  -- ---- an element that holds content
  module _ (d : ℕ) (o : Holder) (v : List ℕ) where
    abbrev holds_to : Result Went Blame → List ℕ → Type 0
    holds_to g v = Gone s (read_on (holding_at d (length s - i) (opened_by s i t) (phase_at o.next) (phase_at o.first) (effect_at o.effect) (ledger_at s w)) s t.next) g v

    pub begin_faults : (b : Blame) → Done s i o.effect w (Err b) v → holds_to (Err b) v
    begin_faults b h = record {
      answer = on_stops (doing ledgered (length s - i) (effect_at o.effect) (ledger_at s w)) s t.next _ b (h.answer t.next e.tag.within);
      within = omega (arith, h.faults, tag_here);
      fits = h.fits;
    }

    module _ (h : Done s i o.effect w (Ok tt) v) (u : List ℕ) where
      abbrev M : Reader (Reached Ledger)
      M = filling_at d (length s - i) (opened_by s i t) (reached_at s o.first v)

      begun : (r : Going (Reached Ledger)) → r ≡ read_on (M >>= λ z. return (reached (phase_at o.next) z.kept)) s t.next
          → r ≡ read_on (holding_at d (length s - i) (opened_by s i t) (phase_at o.next) (phase_at o.first) (effect_at o.effect) (ledger_at s w)) s t.next
      begun r k =
          on_goes (doing ledgered (length s - i) (effect_at o.effect) (ledger_at s w)) s t.next _ (doing_leaves ledgered (length s - i) (effect_at o.effect) (ledger_at s w))
          (ledger_at s v) t.next r (h.answer t.next e.tag.within) k

      pub children_stop : (b : Blame) → Gone s (read_on M s t.next) (Err b) u → holds_to (Err b) u
      children_stop b c = record { answer = begun (Err b) (on_stops M s t.next _ b c.answer); within = c.within; fits = c.fits }

      pub children_filled : (z : Went) → Gone s (read_on M s t.next) (Ok z) u → holds_to (Ok (record { next = z.next; phase = o.next })) u
      children_filled z c = record {
        answer =
            begun (Ok (stood (reached_at s o.next u) z.next))
            (on_goes M s t.next _ (filling_leaves ledgered (content_in (element_in ledgered d)) (contents_leave ledgered d) (length s - i) (opened_by s i t) (reached_at s o.first v))
            (reached_at s z.phase u) z.next _ c.answer (got_on (return (reached_at s o.next u)) s z.next z.next c.within refl));
        within = c.within;
        fits = c.fits;
      }

-- ---- elements
module _ (s : Text) (i : ℕ) (t : Start) (o : Opening s i t) (l : Within s i t.next) where
  pub tag_entered : (w : List ℕ) → Ready s i i w → Entered s i t w
  tag_entered w r = record { tag = record { opening = o; within = l.high; short = r.short }; fits = r.fits }

module _ (s : Text) (i : ℕ) (q : Phase) (w : List ℕ) (d : ℕ) (t : Start) (e : Entered s i t w) where
  abbrev enters_to : Row → Result Went Blame → List ℕ → Type 0
  enters_to o g v = Gone s (read_on (entering_at d (length s - i) (opened_by s i t) (reached_at s q w) (opening_of o)) s t.next) g v

  place_is : i ≡ length s - (length s - i)
  place_is = omega (arith, tag_here s i t w e)

  pub enter_misplaced : (o : Row) → o ≡ O.Misplaced → enters_to o (Err (blame Malformed i)) w
  unfolding entering
  enter_misplaced o z = rw z (record { answer = go d; within = tag_here s i t w e; fits = e.fits })
    where
      go : (d : ℕ) → Err (blame Malformed i) ≡ read_on (entering_at d (length s - i) (opened_by s i t) (reached_at s q w) Does.misplaced) s t.next
      go zero = fault_on _ s t.next malformed i (length s - i) place_is refl
      go (suc d) = fault_on _ s t.next malformed i (length s - i) place_is refl

  pub enter_deep : (o : Row) → (o ≡ O.Misplaced → ⊥) → d ≡ 0 → enters_to o (Err (blame Deep i)) w
  enter_deep o n z = record { answer = fault_on _ s t.next deep i (length s - i) place_is (sunk d z o n); within = tag_here s i t w e; fits = e.fits }
    where
      sunk : (d : ℕ) → d ≡ 0 → (o : Row) → (o ≡ O.Misplaced → ⊥) → entering_at d (length s - i) (opened_by s i t) (reached_at s q w) (opening_of o) (drop t.next s) ≡ fault deep (length s - i)
      sunk zero z O.Misplaced n = absurd (n refl)
      sunk zero z O.Refused n = refl
      sunk zero z (O.Holds h) n = refl
      sunk zero z (O.Says l) n = refl
      sunk (suc d) z o n = absurd (omega arith)

  module _ (z : d ≡ 0 → ⊥) where
    -- what it opens, where a level is left
    enters : (o : Row) (d : ℕ) → (d ≡ 0 → ⊥)
        → read_on (entering ledgered (content_in (element_in ledgered (d - 1))) (length s - i) (opened_by s i t) (reached_at s q w) (opening_of o)) s t.next
        ≡ read_on (entering_at d (length s - i) (opened_by s i t) (reached_at s q w) (opening_of o)) s t.next
    enters o zero z = absurd (z refl)
    enters o (suc d) z =
        let one : suc d - 1 ≡ d = omega arith in
        ap (λ (d : ℕ). read_on (entering ledgered (content_in (element_in ledgered d)) (length s - i) (opened_by s i t) (reached_at s q w) (opening_of o)) s t.next) one

    pub enter_refused : (o : Row) → o ≡ O.Refused → enters_to o (Err (blame Unwanted i)) w
    unfolding entering
    enter_refused o y = rw y (record {
      answer = fault_on (fault_at unwanted (length s - i)) s t.next unwanted i (length s - i) place_is refl ∙ enters O.Refused d z;
      within = tag_here s i t w e;
      fits = e.fits;
    })

    pub enter_text : (o : Row) (l : Leaf) → o ≡ O.Says l → (g : Result Went Blame) (v : List ℕ)
        → Gone s (read_on (saying_at (length s - i) (opened_by s i t) (phase_at l.next) (kind_by (number_of l.item)) (ledger_at s w)) s t.next) g v → enters_to o g v
    unfolding entering
    enter_text o l y g v h = rw y (record { answer = h.answer ∙ enters (O.Says l) d z; within = h.within; fits = h.fits })

    module _ (o : Row) (h : Holder) (y : o ≡ O.Holds h) (b : Bool) (k : b ≡ not (t.full || is_complete (phase_at h.first))) where
      pub enter_children : b ≡ false → (g : Result Went Blame) (v : List ℕ)
          → Gone s (read_on (holding_at (d - 1) (length s - i) (opened_by s i t) (phase_at h.next) (phase_at h.first) (effect_at h.effect) (ledger_at s w)) s t.next) g v → enters_to o g v
      unfolding entering read_as
      enter_children x g v r = rw y (record {
        answer =
            r.answer ∙ ap (placed_as stood (length s)) (sym (run_true (t.full || is_complete (phase_at h.first)) _ _ (drop t.next s) (not-false _ (sym k ∙ x)) refl))
            ∙ enters (O.Holds h) d z;
        within = r.within;
        fits = r.fits;
      })

      -- a tag without content that lacks some
      pub enter_lacking : b ≡ true → enters_to o (Err (blame Malformed i)) w
      unfolding entering
      enter_lacking x = rw y (record {
        answer =
            fault_on _ s t.next malformed i (length s - i) place_is (run_false (t.full || is_complete (phase_at h.first)) _ _ (drop t.next s) (not-true _ (sym k ∙ x)) refl)
            ∙ enters (O.Holds h) d z;
        within = tag_here s i t w e;
        fits = e.fits;
      })

module _ (s : Text) (i : ℕ) (q : Phase) (w : List ℕ) (d : ℕ) (r : Ready s i i w) where
  abbrev element_to : Result Went Blame → List ℕ → Type 0
  element_to g v = Gone s (read_on (element_at d (reached_at s q w)) s i) g v

  pub element_stops : (e : Blame) → start_at (Err e) ≡ read_at start_tag s i → Within s i e.at → element_to (Err e) w
  unfolding element_in read_as
  element_stops e h l = record { answer = go d; within = l.high; fits = r.fits }
    where
      go : (d : ℕ) → Err e ≡ read_on (element_at d (reached_at s q w)) s i
      go zero = at_stops start_tag s i _ (λ a k. k) e h
      go (suc d) = at_stops start_tag s i _ (λ a k. k) e h

  -- where the tag is well formed: what it comes to
  module _ (t : Start) (tag : Opening s i t) (o : Row) (e : opening_of o ≡ opening (phase_at q) (sort_of (part (i + 1) t.end s))) where
    abbrev x : Reached Ledger
    x = reached_at s q w

    opened : (d : ℕ) → read_on (entering_at d (length s - i) (opened_by s i t) x (opening_of o)) s t.next ≡ read_on (element_at d x) s i
    unfolding element_in read_as
    opened zero =
        got_goes start_tag s i (λ z. sinking (length (drop i s)) (opening (phase_at q) (sort_of z.name))) t.next _ tag.read
        (ap₂ (λ (l : ℕ) (y : Does.Opening). read_on (sinking {R = Ledger} l y) s t.next) (sym (length-drop i s)) e)
    opened (suc d) =
        got_goes start_tag s i (λ z. entering ledgered (content_in (element_in ledgered d)) (length (drop i s)) z x (opening (phase_at q) (sort_of z.name))) t.next _ tag.read
        (ap₂ (λ (l : ℕ) (y : Does.Opening). read_on (entering ledgered (content_in (element_in ledgered d)) l (opened_by s i t) x y) s t.next) (sym (length-drop i s)) e)

    pub element_enters : (g : Result Went Blame) (v : List ℕ) → Gone s (read_on (entering_at d (length s - i) (opened_by s i t) x (opening_of o)) s t.next) g v → element_to g v
    element_enters g v h = record { answer = h.answer ∙ opened d; within = h.within; fits = h.fits }
