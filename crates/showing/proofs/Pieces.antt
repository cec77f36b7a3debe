-- The pieces of the answer, one after the other.
use mathlib.Core.Path.{◌≡◌, refl, sym, ap, ◌∙◌}
use mathlib.Core.Bool.{true}
use mathlib.Core.List.Memᴰ
use mathlib.Core.List.{List, [], ◌∷◌, ◌++◌, Memᴰ, append_assoc}
use mathlib.Core.Logic.{inl, inr, ⊎_elim}
use mathlib.Core.Option as Opt
use Prim.Native.Nat.{ℕ, zero, suc, ◌+◌, ◌-◌, ◌≤◌, ◌<◌}
use native.Mathlib.Omega.{arith}
use native.Mathlib.Decide.{dec_lt}
use lib.ListN.{length, get_or, drop, length-append}
use lib.Seq.{sets}
use Rattle.std.specs.Prelude.{Option, Some, None}
use Rattle.text.specs.Texts.{Text, bytes, slash, dot, part}
use Rattle.text.specs.Bytes.{is_text, is_token}
use Rattle.text.proofs.Spans.{from_on}
use Rattle.text.proofs.Indices.{member_at}
use Rattle.names.specs.Names.{is_pattern, is_method_name}
use Rattle.names.specs.Patterns.{PatternKind, exact, prefix, extension, default, unpermitted, kind_of, Shape}
use Rattle.names.proofs.Plainly.{shape}
use Rattle.reading.specs.Views.{View, ProperView, texts}
use Rattle.matching.proofs.Strengths.{at_listed}
use Rattle.writing.proofs.Decimals.{digits_most}
use Rattle.writing.proofs.Puts.{sets_then}
use Rattle.trials.specs.Trials.{below}
use Rattle.trials.specs.Answers.{line_of, caller_fields, answer_of}
use Rattle.trials.proofs.Bounds.{made_short, role_made, tried_good}
use Rattle.grants.specs.Sides.{caller_at, Showable}
use Rattle.grants.specs.Scratch.{stem_path, texts_of}
use Rattle.walks.specs.Walks.{kind_at, ending, hit_path}
use Rattle.walks.proofs.Hits.{kind_line, kind_behind, ending_some}
use Rattle.showing.specs.Shown.{tried_of, filler_at, Telling, EndingIn, FoundIn, found_request, found_head, found_tail}
use Rattle.walks.specs.declared.walking.Hit.{Hit}
use Rattle.showing.proofs.StemPaths.{tail_short}

-- ---- the lines of both views
pub line_total : (us vs : List Text) (a b : ℕ) → a ≡ length us → b ≡ length vs → a + b ≡ length (us ++ vs)
line_total us vs a b p q = omega (arith, length-append us vs)

-- there are 256 at most
pub lines_fit : (old new : View) → ProperView old → ProperView new → (a b : ℕ) → a ≡ length (texts new) → b ≡ length (texts old) → a + b < 18446744073709551616
lines_fit old new O N a b p q = omega (arith, N.few_patterns, O.few_patterns)

pub line_there : (n j : ℕ) (ts : List Text) → n ≡ length ts → j < n → j < length ts
line_there n j ts e h = omega arith

-- each is a pattern
pub line_pattern : (old new : View) → ProperView old → ProperView new → (j : ℕ) (t : Text) → j < length (texts_of old new) → t ≡ get_or (texts_of old new) j []
    → is_pattern t ≡ true
line_pattern old new O N j t h e =
    let u : Text = get_or (texts_of old new) j [] in
    rw e (⊎_elim (N.good_patterns u) (O.good_patterns u) (Memᴰ.append_cases (texts new) (at_listed (texts_of old new) j h)))

-- ---- the stem
module _ (ts : List Text) (n j k : ℕ) (total : k ≡ length ts) where
  module _ (h : j < k) (t : Text) (e : t ≡ get_or ts j []) where
    kind_is : kind_of t ≡ kind_at ts j
    kind_is = ap kind_of e ∙ sym (kind_line ts j (omega arith))

    pub stem_offset : (r at : ℕ) → r ≡ at + length (stem_path (filler_at n) (kind_of t)) → r ≡ at + length (stem_path (filler_at n) (kind_at ts j))
    stem_offset r at p = p ∙ ap (λ (x : PatternKind). at + length (stem_path (filler_at n) x)) kind_is

    pub stem_bytes : (out d : Text) (at : ℕ) → d ≡ sets out at (stem_path (filler_at n) (kind_of t)) → d ≡ sets out at (stem_path (filler_at n) (kind_at ts j))
    stem_bytes out d at p = p ∙ ap (λ (x : PatternKind). sets out at (stem_path (filler_at n) x)) kind_is

  module _ (h : k ≤ j) where
    pub last_offset : (r at : ℕ) → r ≡ at + length (below [] (filler_at n)) → r ≡ at + length (stem_path (filler_at n) (kind_at ts j))
    last_offset r at p = p ∙ ap (λ (x : PatternKind). at + length (stem_path (filler_at n) x)) (sym (kind_behind ts j (omega arith)))

    pub last_bytes : (out d : Text) (at : ℕ) → d ≡ sets out at (below [] (filler_at n)) → d ≡ sets out at (stem_path (filler_at n) (kind_at ts j))
    last_bytes out d at p = p ∙ ap (λ (x : PatternKind). sets out at (stem_path (filler_at n) x)) (sym (kind_behind ts j (omega arith)))

-- ---- the extension behind it
-- there is none
module _ (ts : List Text) (e : Option ℕ) (none : e ≡ None) where
  pub no_ending_offset : (at : ℕ) → at ≡ at + length (ending ts e)
  no_ending_offset at = rw none (omega arith)

  pub no_ending_bytes : (out : Text) (at : ℕ) → out ≡ sets out at (ending ts e)
  no_ending_bytes out at = rw none

-- that of line i
module _ (ts : List Text) (e : Option ℕ) (i : ℕ) (one : e ≡ Some i) (E : EndingIn ts e) where
  here : EndingIn ts (Some i)
  here = rw one at E

  pub ending_there : i < length ts
  ending_there = here.0

  module _ (t : Text) (is : t ≡ get_or ts i []) where
    ending_shape : Shape t (extension here.1)
    ending_shape = rw (ap kind_of is ∙ here.2) at (shape t)

    -- `.` and the extension are its text behind the first byte
    ending_is : part 1 (length t) t ≡ ending ts e
    ending_is = from_on 1 t ∙ ap (drop 1) ending_shape.0 ∙ sym (ending_some ts i here.1 here.0 here.2) ∙ ap (ending ts) (sym one)

    pub ending_long : 1 ≤ length t
    ending_long = let l = ap length ending_shape.0 in omega arith

    pub ending_offset : (r at : ℕ) → r ≡ at + length (part 1 (length t) t) → r ≡ at + length (ending ts e)
    ending_offset r at p = p ∙ ap (λ (x : Text). at + length x) ending_is

    pub ending_bytes : (out d : Text) (at : ℕ) → d ≡ sets out at (part 1 (length t) t) → d ≡ sets out at (ending ts e)
    ending_bytes out d at p = p ∙ ap (sets out at) ending_is

    pub ending_short : is_pattern t ≡ true → length (part 1 (length t) t) ≤ 1000000
    ending_short h = tail_short t h

-- ---- the path
-- a stem's path is short
stem_short : (n : ℕ) (ts : List Text) (j : ℕ) → ((t : Text) → Memᴰ t ts → length t ≤ 255) → length (stem_path (filler_at n) (kind_at ts j)) ≤ 262
stem_short n ts j short = go (dec_lt j (length ts))
  where
    filled : length (filler_at n) ≤ 6
    filled = omega (arith, digits_most 5 n)

    kind : (t : Text) → length t ≤ 255 → (k : PatternKind) → Shape t k → length (stem_path (filler_at n) k) ≤ 262
    kind t l (exact q) (inl s) = let e = ap length s.1 in omega arith
    kind t l (exact q) (inr s) = let e = ap length s.0 in omega arith
    kind t l (prefix p) s = let e = ap length s.0 ∙ length-append p (bytes "/*") in let z = length-append p (slash ∷ filler_at n) in omega (arith, filled)
    kind t l (extension e) s = let z = ap length s.0 in let y = length-append (filler_at n) (dot ∷ e) in omega (arith, filled)
    kind t l default s = omega (arith, filled)
    kind t l unpermitted s = omega arith

    go : Dec (j < length ts) → length (stem_path (filler_at n) (kind_at ts j)) ≤ 262
    go (yes h) = rw (kind_line ts j h) (kind (get_or ts j []) (short (get_or ts j []) (at_listed ts j h)) (kind_of (get_or ts j [])) (shape (get_or ts j [])))
    go (no h) = let k : length ts ≤ j = omega arith in rw (kind_behind ts j k) (omega (arith, filled))

-- so is what stands behind it
ending_most : (ts : List Text) (e : Option ℕ) → ((t : Text) → Memᴰ t ts → length t ≤ 255) → EndingIn ts e → length (ending ts e) ≤ 255
ending_most ts None short E = omega arith
ending_most ts (Some i) short E =
    let s : Shape (get_or ts i []) (extension E.1) = rw E.2 at (shape (get_or ts i [])) in
    let l = short (get_or ts i []) (at_listed ts i E.0) in
    let z = ap length s.0 in
    let v = ap length (ending_some ts i E.1 E.0 E.2) in
    omega arith

module _ (old new : View) (w : List ℕ) (T : Telling old new w) (f : Hit) (F : FoundIn old new f) (n : ℕ) where
  abbrev lines : List Text
  lines = texts_of old new

  texts_short : (t : Text) → Memᴰ t lines → length t ≤ 255
  texts_short t m = ⊎_elim (T.news.short_patterns t) (T.olds.short_patterns t) (Memᴰ.append_cases (texts new) m)

  abbrev path : Text
  path = hit_path (filler_at n) lines f.stem f.ending

  path_short : length path ≤ 517
  path_short =
      let z = length-append (stem_path (filler_at n) (kind_at lines f.stem)) (ending lines f.ending) in
      omega (arith, stem_short n lines f.stem texts_short, ending_most lines f.ending texts_short F.ending)

  module _ (at a : ℕ) (in_reach : at ≤ 1000) (at₁ : a ≡ at + length (stem_path (filler_at n) (kind_at lines f.stem))) where
    pub stem_near : a ≤ 2000
    stem_near = omega (arith, stem_short n lines f.stem texts_short)

    pub path_offset : (r : ℕ) → r ≡ a + length (ending lines f.ending) → r ≡ at + length path
    path_offset r p = let z = length-append (stem_path (filler_at n) (kind_at lines f.stem)) (ending lines f.ending) in omega arith

    pub path_bytes : (out d d' : Text) → d ≡ sets out at (stem_path (filler_at n) (kind_at lines f.stem)) → d' ≡ sets d a (ending lines f.ending) → d' ≡ sets out at path
    path_bytes out d d' p q = sets_then out d d' (stem_path (filler_at n) (kind_at lines f.stem)) (ending lines f.ending) at a at₁ p q

  -- ---- the answer, piece by piece
  -- before the method
  module _ (a b r : ℕ) (at₁ : a ≡ 19) (at₂ : b ≡ a + length path) where
    pub path_near : b ≤ 1000000
    path_near = omega (arith, path_short)

    module _ (at₃ : r ≡ b + 8) where
      pub head_near : r ≤ 1000
      head_near = omega (arith, path_short)

      pub head_offset : r ≡ 0 + length (found_head old new n f)
      head_offset = omega (arith, length-append (bytes "verdict\twider\npath\t") path, length-append (bytes "verdict\twider\npath\t" ++ path) (bytes "\nmethod\t"))

      pub head_bytes : (out o₁ o₂ o₃ : Text) → o₁ ≡ sets out 0 (bytes "verdict\twider\npath\t") → o₂ ≡ sets o₁ a path → o₃ ≡ sets o₂ b (bytes "\nmethod\t")
          → o₃ ≡ sets out 0 (found_head old new n f)
      head_bytes out o₁ o₂ o₃ p q s =
          let e : b ≡ 0 + length (bytes "verdict\twider\npath\t" ++ path) = omega (arith, length-append (bytes "verdict\twider\npath\t") path) in
          sets_then out o₂ o₃ (bytes "verdict\twider\npath\t" ++ path) (bytes "\nmethod\t") 0 b e (sets_then out o₁ o₂ (bytes "verdict\twider\npath\t") path 0 a at₁ p q) s

-- from the method on
module _ (old new : View) (w : List ℕ) (T : Telling old new w) (f : Hit) (F : FoundIn old new f) where
  abbrev method : Text
  method = get_or (tried_of old new) f.caught.method []

  abbrev line : Text
  line = line_of (caller_fields (caller_at new.roles f.caught.caller))

  tried_short : length method ≤ 24
  unfolding is_method_name
  tried_short =
      made_short is_token 1 24 method
      (tried_good old.methods new.methods T.olds.good_methods T.news.good_methods method
      (at_listed (tried_of old new) f.caught.method F.method))

  module _ (at a b : ℕ) (in_reach : at ≤ 1000) (at₁ : a ≡ at + length method) where
    pub method_near : a ≤ 1000000
    method_near = omega (arith, tried_short)

    module _ (at₂ : b ≡ a + 1) where
      pub caller_near : b ≤ 10000
      caller_near = omega (arith, tried_short)

      pub tail_offset : (r : ℕ) → r ≡ b + length line → r ≡ at + length (found_tail old new f)
      tail_offset r p = omega (arith, length-append method (bytes "\n"), length-append (method ++ bytes "\n") line)

      pub tail_bytes : (out o₁ o₂ o₃ : Text) → o₁ ≡ sets out at method → o₂ ≡ sets o₁ a (bytes "\n") → o₃ ≡ sets o₂ b line → o₃ ≡ sets out at (found_tail old new f)
      tail_bytes out o₁ o₂ o₃ p q s =
          let e : b ≡ at + length (method ++ bytes "\n") = omega (arith, length-append method (bytes "\n")) in
          sets_then out o₂ o₃ (method ++ bytes "\n") line at b e (sets_then out o₁ o₂ method (bytes "\n") at a at₁ p q) s

-- both together are the answer
both_parts : (old new : View) (n : ℕ) (f : Hit) → found_head old new n f ++ found_tail old new f ≡ answer_of (Opt.some (found_request old new n f))
unfolding answer_of line_of
both_parts old new n f = simp append_assoc

module _ (old new : View) (n : ℕ) (f : Hit) (a r : ℕ) (at₁ : a ≡ 0 + length (found_head old new n f)) where
  pub answer_size_lem : r ≡ a + length (found_tail old new f) → r ≡ length (answer_of (Opt.some (found_request old new n f)))
  answer_size_lem p = rw (← both_parts old new n f) (omega (arith, length-append (found_head old new n f) (found_tail old new f)))

  pub answer_bytes : (out o₁ o₂ : Text) → o₁ ≡ sets out 0 (found_head old new n f) → o₂ ≡ sets o₁ a (found_tail old new f) → o₂ ≡ sets out 0 (answer_of (Opt.some (found_request old new n f)))
  answer_bytes out o₁ o₂ p q = rw (← both_parts old new n f) (sets_then out o₁ o₂ (found_head old new n f) (found_tail old new f) 0 a at₁ p q)

-- ---- the caller's line
-- a caller who is logged in has a role, whose number is two less
pub role_from : (ns : List Text) (c : ℕ) → Showable ns c → (c ≡ 0 → ⊥) → 2 ≤ c
role_from ns c S h = let k = S.other in omega arith

pub role_there : (ns : List Text) (c : ℕ) → Showable ns c → (c ≡ 0 → ⊥) → c - 2 < length ns
role_there ns c S h = let k = S.other in let w = S.within in omega arith

-- a role's name is short
role_most : (v : View) (c : ℕ) → ProperView v → Showable v.roles c → (c ≡ 0 → ⊥) → length (get_or v.roles (c - 2) []) ≤ 64
role_most v c P S h =
    let n : Text = get_or v.roles (c - 2) [] in
    made_short is_text 1 64 n (role_made n (P.good_roles n (member_at v.roles (c - 2) (role_there v.roles c S h))))

module _ (v : View) (c : ℕ) (name : Text) (P : ProperView v) (S : Showable v.roles c) (some : c ≡ 0 → ⊥) (e : name ≡ get_or v.roles (c - 2) []) where
  pub role_short : length name ≤ 1000000
  role_short = rw e (omega (arith, role_most v c P S some))

  -- so is what stands before its line's end
  pub role_near : (at a b : ℕ) → at ≤ 10000 → a ≡ at + 12 → b ≡ a + length name → b ≤ 1000000
  role_near at a b l p q = omega (arith, ap length e, role_most v c P S some)

-- the line with the role of caller c
role_line : (ns : List Text) (c : ℕ) (name : Text) → (c ≡ 0 → ⊥) → (c ≡ 1 → ⊥) → name ≡ get_or ns (c - 2) [] → (bytes "caller\trole\t" ++ name) ++ bytes "\n" ≡ line_of (caller_fields (caller_at ns c))
unfolding line_of
role_line ns zero name h k e = absurd (h refl)
role_line ns (suc zero) name h k e = absurd (k refl)
role_line ns (suc (suc n)) name h k e = let m : suc (suc n) - 2 ≡ n = omega arith in ap (λ (x : Text). (bytes "caller\trole\t" ++ x) ++ bytes "\n") (rw m at e)

module _ (ns : List Text) (c : ℕ) (out : Text) (at : ℕ) where
  -- not logged in
  pub none_offset : (r : ℕ) → c ≡ 0 → r ≡ at + 12 → r ≡ at + length (line_of (caller_fields (caller_at ns c)))
  unfolding line_of
  none_offset r e p = rw e p

  pub none_bytes : (d : Text) → c ≡ 0 → d ≡ sets out at (bytes "caller\tnone\n") → d ≡ sets out at (line_of (caller_fields (caller_at ns c)))
  unfolding line_of
  none_bytes d e p = rw e p

  module _ (S : Showable ns c) (some : c ≡ 0 → ⊥) (name : Text) (named : name ≡ get_or ns (c - 2) []) (a b r : ℕ) (at₁ : a ≡ at + 12) (at₂ : b ≡ a + length name) where
    pub role_offset : r ≡ b + 1 → r ≡ at + length (line_of (caller_fields (caller_at ns c)))
    role_offset p =
        rw (← role_line ns c name some S.other named)
        (let l = length-append (bytes "caller\trole\t" ++ name) (bytes "\n") in let k = length-append (bytes "caller\trole\t") name in omega arith)

    pub role_bytes : (d₁ d₂ d₃ : Text) → d₁ ≡ sets out at (bytes "caller\trole\t") → d₂ ≡ sets d₁ a name → d₃ ≡ sets d₂ b (bytes "\n")
        → d₃ ≡ sets out at (line_of (caller_fields (caller_at ns c)))
    role_bytes d₁ d₂ d₃ p q s =
        let k = length-append (bytes "caller\trole\t") name in
        let e : b ≡ at + length (bytes "caller\trole\t" ++ name) = omega arith in
        rw (← role_line ns c name some S.other named)
        (sets_then out d₂ d₃ (bytes "caller\trole\t" ++ name) (bytes "\n") at b e (sets_then out d₁ d₂ (bytes "caller\trole\t") name at a at₁ p q) s)

-- ---- the whole answer is short
line_short : (v : View) (c : ℕ) → ProperView v → Showable v.roles c → length (line_of (caller_fields (caller_at v.roles c))) ≤ 77
line_short v c P S = go (dec_lt 0 c)
  where
    go : Dec (0 < c) → length (line_of (caller_fields (caller_at v.roles c))) ≤ 77
    go (yes h) =
        let name : Text = get_or v.roles (c - 2) [] in
        let some : c ≡ 0 → ⊥ = λ e. omega arith in
        let z = ap length (role_line v.roles c name some S.other refl) in
        omega (arith, length-append (bytes "caller\trole\t" ++ name) (bytes "\n"), length-append (bytes "caller\trole\t") name, role_most v c P S some)
    go (no h) = let z = none_offset v.roles c [] 0 12 (omega arith) refl in omega arith

pub wider_short : (old new : View) (w : List ℕ) → Telling old new w → (f : Hit) → FoundIn old new f → (n : ℕ)
    → length (answer_of (Opt.some (found_request old new n f))) ≤ 1024
wider_short old new w T f F n =
    let line : Text = line_of (caller_fields (caller_at new.roles f.caught.caller)) in
    let tried : Text = get_or (tried_of old new) f.caught.method [] in
    let h : 27 + length (found_request old new n f).path ≡ 0 + length (found_head old new n f) = head_offset old new w T f F n 19 (19 + length (found_request old new n f).path) _ refl refl (omega arith) in
    let t = length-append (tried ++ bytes "\n") line in
    let u = length-append tried (bytes "\n") in
    let z = ap length (both_parts old new n f) in
    omega (arith, path_short old new w T f F n, tried_short old new w T f F, line_short new f.caught.caller T.news F.caller, length-append (found_head old new n f) (found_tail old new f))
