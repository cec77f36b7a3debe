-- A trial method by its numbers in both views.
use mathlib.Core.Path.{◌≡◌, sym, ap, ◌∙◌}
use mathlib.Core.List.Memᴰ
use mathlib.Core.List.{List, [], ◌∷◌, ◌++◌, Memᴰ}
use mathlib.Core.Logic.{⊎_elim}
use Prim.Native.Nat.{ℕ, ◌+◌, ◌-◌, ◌≤◌, ◌<◌}
use native.Mathlib.Omega.{arith}
use lib.ListN.{length, get_or, drop}
use lib.Seq.{sets, get_or-take, get_or-drop}
use borrow.Author.Tests.{le-ltb}
use Rattle.text.specs.Texts.{Text, bytes, member, index_of, part}
use Rattle.text.specs.Bytes.{is_token}
use Rattle.names.specs.Names.{is_method_name}
use Rattle.text.proofs.Truths.{never}
use Rattle.text.proofs.Indices.{index_member, index_here, member_at}
use Rattle.names.proofs.Plainly.{member_plain}
use Rattle.reading.specs.Views.{View, ProperView}
use Rattle.matching.proofs.Strengths.{at_listed}
use Rattle.writing.specs.Decimals.{digits}
use Rattle.trials.specs.Fillers.{numbered, first_number, is_unnamed, filler_method}
use Rattle.trials.specs.Trials.{joined, methods_tried}
use Rattle.trials.proofs.Bounds.{made_short}
use Rattle.trials.proofs.Choices.{joined_of}
use Rattle.grants.specs.Scratch.{pairs_in}
use Rattle.showing.specs.Shown.{tried_of, Telling}

-- a pair's numbers stand in the scratch
pair_at : (w : List ℕ) (i : ℕ) → i < 128 → get_or (pairs_in w) i 0 ≡ get_or w (1024 + i) 0
pair_at w i h =
    let q : i < 1152 - 1024 = omega arith in
    get_or-take (1152 - 1024) (drop 1024 w) i 0 q ∙ get_or-drop 1024 w i 0

module _ (old new : View) (w : List ℕ) (T : Telling old new w) (m : ℕ) (within : m < length (tried_of old new)) where
  abbrev news : List Text
  news = new.methods

  abbrev olds : List Text
  olds = old.methods

  abbrev tried : Text
  tried = get_or (tried_of old new) m []

  in_olds : (j : ℕ) → j ≡ get_or w (1024 + m) 0 → j ≡ index_of tried olds
  in_olds j e = e ∙ sym (pair_at w m (omega (arith, T.methods.few))) ∙ T.methods.olds m within

  in_news : (i : ℕ) → i ≡ get_or w (1088 + m) 0 → i ≡ index_of tried news
  in_news i e =
      let q : 1024 + (64 + m) ≡ 1088 + m = omega arith in
      e ∙ ap (λ (k : ℕ). get_or w k 0) (sym q) ∙ sym (pair_at w (64 + m) (omega (arith, T.methods.few))) ∙ T.methods.news m within

  -- what has no index is none of them
  unnamed : (ms : List Text) (n : ℕ) → n ≡ index_of tried ms → length ms ≤ n → Memᴰ tried ms → ⊥
  unnamed ms n q l a = never (member tried ms) ((member_plain tried ms).1 a) (sym (index_member tried ms) ∙ le-ltb (index_of tried ms) (length ms) (rw q at l))

  -- it is new's where its number there is one of new's
  module _ (i k : ℕ) (e : i ≡ get_or w (1088 + m) 0) (all : k ≡ length news) (h : i < k) (name : Text) (q : name ≡ get_or news i []) where
    new_named : name ≡ tried
    new_named = let p = in_news i e in q ∙ rw p (index_here tried news (omega arith))

    pub new_offset : (r at : ℕ) → r ≡ at + length name → r ≡ at + length tried
    new_offset r at p = p ∙ ap (λ (t : Text). at + length t) new_named

    pub new_bytes : (out d : Text) (at : ℕ) → d ≡ sets out at name → d ≡ sets out at tried
    new_bytes out d at p = p ∙ ap (sets out at) new_named

  -- and old's where its number there is one of old's
  module _ (j l : ℕ) (f : j ≡ get_or w (1024 + m) 0) (every : l ≡ length olds) (g : j < l) (name : Text) (q : name ≡ get_or olds j []) where
    old_named : name ≡ tried
    old_named = let p = in_olds j f in q ∙ rw p (index_here tried olds (omega arith))

    pub old_offset : (r at : ℕ) → r ≡ at + length name → r ≡ at + length tried
    old_offset r at p = p ∙ ap (λ (t : Text). at + length t) old_named

    pub old_bytes : (out d : Text) (at : ℕ) → d ≡ sets out at name → d ≡ sets out at tried
    old_bytes out d at p = p ∙ ap (sets out at) old_named

  -- else it is the filler method
  module _ (i j k l n : ℕ) (e : i ≡ get_or w (1088 + m) 0) (all : k ≡ length news) (h : k ≤ i) (f : j ≡ get_or w (1024 + m) 0) (every : l ≡ length olds) (g : l ≤ j)
      (number : (n ≡ first_number (is_unnamed (news ++ olds))) × (n < 100)) where
    filler_named : 81 ∷ digits 5 n ≡ tried
    unfolding methods_tried filler_method
    filler_named =
        ap (λ (k : ℕ). numbered (bytes "Q") k) number.0
        ∙ ⊎_elim (λ (a : Memᴰ tried (joined news olds)).
        ⊎_elim (λ (b : Memᴰ tried news). absurd (unnamed news i (in_news i e) (omega arith) b)) (λ (b : Memᴰ tried olds). absurd (unnamed olds j (in_olds j f) (omega arith) b)) (joined_of tried news olds a))
        (λ (a : Memᴰ tried (filler_method (news ++ olds) ∷ [])). sym (Memᴰ.eq_of_singleton a))
        (Memᴰ.append_cases (joined news olds) (at_listed (tried_of old new) m within))

    pub filler_offset : (r at : ℕ) → r ≡ at + length (81 ∷ digits 5 n) → r ≡ at + length tried
    filler_offset r at p = p ∙ ap (λ (t : Text). at + length t) filler_named

    pub filler_bytes : (out d : Text) (at : ℕ) → d ≡ sets out at (81 ∷ digits 5 n) → d ≡ sets out at tried
    filler_bytes out d at p = p ∙ ap (sets out at) filler_named

-- a method of a view is short
pub method_short : (v : View) (i k : ℕ) (name : Text) → ProperView v → k ≡ length v.methods → i < k → name ≡ get_or v.methods i [] → length name ≤ 1000000
unfolding is_method_name
method_short v i k name P all h e =
    let n : Text = get_or v.methods i [] in
    let l = made_short is_token 1 24 n (P.good_methods n (member_at v.methods i (rw all at h))) in
    rw e (omega arith)
