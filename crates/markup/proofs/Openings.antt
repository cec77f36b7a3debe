-- The laws of first tags.
use mathlib.Core.Path.{◌≡◌, refl, sym, ap, subst, ◌∙◌}
use mathlib.Core.Bool.{Bool}
use mathlib.Core.List.{◌∷◌, ◌++◌}
use Prim.Native.Nat.{ℕ, suc, ◌+◌, ◌-◌, ◌≤◌}
use native.Mathlib.Omega.{arith}
use lib.ListN.{length, take, drop, length-append, length-drop}
use lib.Seq.{drop-drop, take_at}
use Rattle.text.specs.Texts.{Text, bytes, part}
use Rattle.std.specs.Prelude.{Result, Ok, Err}
use Rattle.documents.specs.Parts.{Got, got, fault, Reader, ◌>>=◌, ◌>>◌, return, word, name, white, attributes, tag, tag_end, Opened, start_tag}
use Rattle.documents.proofs.Steps.{Ok as Accepts, ok_got, ok_map, ok_then, run_then, run_blamed}
use Rattle.documents.proofs.Sound.{word_ok, name_ok}
use Rattle.documents.proofs.Leaves.{Leaves, leaves_then, word_leaves, white_leaves, name_leaves, attributes_leaves, tag_end_leaves}
use Rattle.markup.specs.declared.answers.Fault.{Fault as Blame}
use Rattle.markup.specs.declared.answers.Ended.{Ended}
use Rattle.markup.specs.declared.answers.Start.{Start}
use Rattle.markup.specs.Places.{read_as, read_at, blame_at, ended, start_at, Opening, name_of_tag, rest_of_tag, whole_tag}
use Rattle.markup.proofs.Steps.{went, went_as, stops, goes, mapped, as_well}
use Rattle.markup.proofs.Blames.{blamed_there}
use Rattle.markup.proofs.Values.{same_as}

-- ---- readers put together in two ways
then_assoc : {A B C : Type 0} (m : Reader A) (k : A → Reader B) (j : B → Reader C) (x : Text) → ((m >>= k) >>= j) x ≡ (m >>= λ a. k a >>= j) x
unfolding ◌>>=◌
then_assoc {A} {B} {C} m k j x = go (m x)
  where
    go : (g : Got A) → Path (Got C)
        (elim (elim g as (λ z. Got B) [ got a r ↦ k a r | fault d l ↦ fault d l ]) as (λ z. Got C) [ got b r ↦ j b r | fault d l ↦ fault d l ])
        (elim g as (λ z. Got C) [ got a r ↦ (k a >>= j) r | fault d l ↦ fault d l ])
    go (got a r) = refl
    go (fault d l) = refl

same_behind : {A B : Type 0} (m : Reader A) (k j : A → Reader B) (x : Text) → ((a : A) (r : Text) → k a r ≡ j a r) → (m >>= k) x ≡ (m >>= j) x
unfolding ◌>>=◌
same_behind {A} {B} m k j x h = go (m x)
  where
    go : (g : Got A) → Path (Got B) (elim g as (λ z. Got B) [ got a r ↦ k a r | fault d l ↦ fault d l ]) (elim g as (λ z. Got B) [ got a r ↦ j a r | fault d l ↦ fault d l ])
    go (got a r) = h a r
    go (fault d l) = refl

return_then : {A B : Type 0} (a : A) (k : A → Reader B) (x : Text) → (return a >>= k) x ≡ k a x
unfolding ◌>>=◌
return_then a k x = refl

-- ---- a first tag is its name and the rest
abbrev told : Text → Bool → Reader Opened
told n f = return (record { name = n; full = f })

abbrev in_one : Reader Opened
in_one = tag >>= λ n. tag_end >>= told n

abbrev in_two : Reader Opened
in_two = whole_tag

behind : (n x : Text) → ((attributes >> white >> return n) >>= λ m. tag_end >>= told m) x ≡ (rest_of_tag >>= told n) x
behind n x =
    then_assoc attributes (λ u. white >> return n) (λ m. tag_end >>= told m) x
    ∙ same_behind attributes (λ u. (white >> return n) >>= λ m. tag_end >>= told m) (λ u. (white >> tag_end) >>= told n) x
    (λ u r. then_assoc white (λ v. return n) (λ m. tag_end >>= told m) r
    ∙ same_behind white (λ v. return n >>= λ m. tag_end >>= told m) (λ v. tag_end >>= told n) r (λ v q. return_then n (λ m. tag_end >>= told m) q)
    ∙ sym (then_assoc white (λ v. tag_end) (told n) r))
    ∙ sym (then_assoc attributes (λ u. white >> tag_end) (told n) x)

in_two_lem : (x : Text) → in_one x ≡ in_two x
unfolding tag
in_two_lem x =
    then_assoc (word (bytes "<")) (λ u. name >>= λ n. attributes >> white >> return n) (λ n. tag_end >>= told n) x
    ∙ same_behind (word (bytes "<")) (λ u. (name >>= λ n. attributes >> white >> return n) >>= λ n. tag_end >>= told n) (λ u. name >>= λ n. rest_of_tag >>= told n) x
    (λ u r. then_assoc name (λ n. attributes >> white >> return n) (λ n. tag_end >>= told n) r
    ∙ same_behind name (λ n. (attributes >> white >> return n) >>= λ m. tag_end >>= told m) (λ n. rest_of_tag >>= told n) r behind)
    ∙ sym (then_assoc (word (bytes "<")) (λ u. name) (λ n. rest_of_tag >>= told n) x)

-- ---- the name
name_of_tag_leaves : Leaves name_of_tag
name_of_tag_leaves = leaves_then (word (bytes "<")) _ (word_leaves (bytes "<")) (λ u. name_leaves)

rest_leaves : Leaves rest_of_tag
rest_leaves = leaves_then attributes _ attributes_leaves (λ u. leaves_then white _ white_leaves (λ v. tag_end_leaves))

-- it stands behind the `<`
name_stands : (x : Text) → Accepts (λ n r. Path Text x (60 ∷ (n ++ r))) (name_of_tag x)
name_stands x = ok_then _ _ x (word_ok (bytes "<") x) λ u r e. ok_map (name_ok r) λ n t h. e ∙ (λ i. 60 ∷ h.0 i)

-- what stands between the first byte from i on and the place k
cut : (s a : Text) (i k : ℕ) → k ≤ length s → Path Text (drop i s) (60 ∷ (a ++ drop k s)) → (a ≡ part (i + 1) k s) × (i + 1 ≤ k)
cut s a i k h e =
    let whole : length (drop i s) ≡ suc (length (a ++ drop k s)) = ap length e in
    let n : k ≡ i + 1 + length a = omega (arith, whole, length-append a (drop k s), length-drop i s, length-drop k s) in
    let z : k - (i + 1) ≡ length a = omega arith in
    let d : drop (i + 1) s ≡ a ++ drop k s = sym (drop-drop 1 i s) ∙ ap (drop 1) e in
    (sym (ap (take (k - (i + 1))) d ∙ take_at a (drop k s) (k - (i + 1)) (sym z)), omega arith)

-- ---- at places
start_at_lem : (s : Text) (i : ℕ) → i ≤ length s → read_at start_tag s i ≡ blame_at i (length s) (read_at whole_tag s i)
unfolding start_tag read_as
start_at_lem s i h =
    blamed_there (λ a k. k) in_one s i h ∙ ap (blame_at i (length s)) (same_as in_one s i in_two (in_two_lem (drop i s)) (λ a k. k))

-- what `map_err` makes of it
pub start_tag_at : (s : Text) (i : ℕ) → i ≤ length s → (g r : Result Start Blame) → start_at g ≡ read_at whole_tag s i → r ≡ blame_at i (length s) g → start_at r ≡ read_at start_tag s i
start_tag_at s i h g r e f = ap start_at (f) ∙ moved g ∙ ap (blame_at i (length s)) e ∙ sym (start_at_lem s i h)
  where
    moved : (g : Result Start Blame) → start_at (blame_at i (length s) g) ≡ blame_at i (length s) (start_at g)
    moved (Ok t) = refl
    moved (Err d) = refl

module _ (s : Text) (i : ℕ) where
  pub first_no_name : (d : Blame) → Err d ≡ read_at name_of_tag s i → Err d ≡ read_at whole_tag s i
  first_no_name d e = stops name_of_tag s i (λ m. rest_of_tag >>= told m) (λ a k. k) (λ a k. k) d e

  module _ (n : ℕ) (e : Ok n ≡ read_at name_of_tag s i) where
    pub first_no_rest : (d : Blame) → Err d ≡ read_as ended rest_of_tag s n → Err d ≡ read_at whole_tag s i
    first_no_rest d g = goes name_of_tag s i (λ m. rest_of_tag >>= told m) (λ a k. k) name_of_tag_leaves n (Err d) e (λ a y. stops rest_of_tag s n (told a) ended (λ b k. k) d g)

    module _ (z : Ended) (g : Ok z ≡ read_as ended rest_of_tag s n) where
      pub first_done : Ok z.next ≡ read_at whole_tag s i
      first_done =
          goes name_of_tag s i (λ m. rest_of_tag >>= told m) (λ a k. k) name_of_tag_leaves n (Ok z.next) e
          (λ a y. as_well rest_of_tag s n ended (λ (x : Ended). x.next) z g ∙ sym (mapped rest_of_tag s n (λ f. record { name = a; full = f }) (λ b k. k)))

      stood : (a r : Text) → name_of_tag (drop i s) ≡ got a r → Path Text (drop i s) (60 ∷ (a ++ r))
      stood a r y = ok_got (subst (Accepts (λ c q. Path Text (drop i s) (60 ∷ (c ++ q)))) y (name_stands (drop i s)))

      named : n ≤ length s → (name_of_tag (drop i s) ≡ got (part (i + 1) n s) (drop n s)) × (i + 1 ≤ n)
      named u =
          let y = went name_of_tag s i name_of_tag_leaves n e in
          let c = cut s y.0 i n u (stood y.0 (drop n s) y.1) in
          (y.1 ∙ ap (λ (x : Text). got x (drop n s)) c.0, c.1)

      behind_it : rest_of_tag (drop n s) ≡ got z.full (drop z.next s)
      behind_it =
          let w = went_as rest_of_tag s n rest_leaves ended z g in
          w.1.1.1 ∙ ap (λ (x : Ended). got x.full (drop x.next s)) (sym w.1.1.0)

      pub first_opening : n ≤ z.next → z.next ≤ length s → Opening s i (record { end = n; full = z.full; next = z.next })
      unfolding start_tag
      first_opening w u =
          let h = named (omega arith) in
          record {
            low = h.1;
            high = w;
            read = run_blamed _ in_one (drop i s)
                (in_two_lem (drop i s) ∙ run_then name_of_tag _ (drop i s) h.0 (run_then rest_of_tag _ (drop n s) behind_it refl));
          }
