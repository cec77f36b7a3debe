-- The caller as a view sees it is the caller that Requests reads: bad where that has none, and else with the view's roles among the names.
use mathlib.Core.Path.{◌≡◌, refl, sym, ap, ◌∙◌}
use mathlib.Core.Bool.{Bool, true, false, not, cond, ◌&&◌, ◌||◌, or-false, and-false, and-or_distrib_left}
use mathlib.Core.List.{List, [], ◌∷◌, ◌++◌, append_assoc, append-nil}
use mathlib.Core.Logic.{◌↔◌}
use mathlib.Core.Option.{Option, none, some}
use Prim.Native.Nat.{ℕ, zero, suc, ◌+◌, ◌/◌, ◌%◌, ◌^◌, ◌≤◌, ◌<◌}
use native.Mathlib.Nat.{zero-add, zero-div}
use native.Mathlib.Omega.{arith}
use native.Mathlib.Decide.{dec_lt}
use lib.ListN.{length, get_or}
use lib.Dec.{eqb, leb, ltb}
use lib.Bits.{bit_and}
use borrow.Author.Tests.{ltb-true, lt-ltb, le-ltb, le-leb, lt-leb, eq-eqb, ne_eqb}
use Rattle.std.specs.Prelude.{Some, None, Option as Optional}
use Rattle.text.specs.Texts.{Text, same, member, index_of, Once}
use Rattle.text.specs.Lines.{Line, lines_of}
use Rattle.entries.specs.Sets.{set_of, digit}
use Rattle.reading.specs.Views.{View}
use Rattle.text.proofs.Truths.{never, not_so, and_left, and_right}
use Rattle.text.proofs.Spans.{same_equal}
use Rattle.text.proofs.Indices.{index_member, index_here, member_at, stands}
use Rattle.names.proofs.Plainly.{member_append, member_plain}
use Rattle.entries.proofs.Digits.{set_same, set_and, set_none, set_with, digit_set}
use Rattle.decisions.specs.Requests.{Caller, nobody, logged_in, is_ended_name, all_ended_names, most_names, names_in, caller_of}
use Rattle.decisions.specs.Combining.{any_of}
use Rattle.decisions.proofs.Anys.{any_plain}
use Rattle.callers.specs.RoleSets.{role_set, with_role, check_names, check_caller}
use Rattle.callers.specs.declared.Who.{Who}
use Rattle.callers.specs.declared.Who.TheVariants.{Nobody, Roles}

-- ---- the caller as the view sees it
abbrev pub who_as : View → Caller → Who
who_as v nobody = Nobody
who_as v (logged_in ns) = Roles (role_set v ns)

abbrev pub checked_as : View → Option Caller → Optional Who
checked_as v none = None
checked_as v (some c) = Some (who_as v c)

-- the view has a role i, and it is this one
abbrev listed : View → ℕ → Bool
listed v i = ltb i (length v.roles)

abbrev role : View → ℕ → Text
role v i = get_or v.roles i []

-- digit i of the caller's roles
abbrev owns : View → List Text → ℕ → Bool
owns v ns i = listed v i && member (role v i) ns

role_set_lem : (v : View) (ns : List Text) → role_set v ns ≡ set_of 32 (owns v ns)
unfolding role_set
role_set_lem v ns = refl

module _ (v : View) (few : length v.roles ≤ 32) where
  -- the caller's roles and those that pass a test: they share none exactly where none of the names passes it
  module _ (f : Text → Bool) (named : (n : Text) → f n ≡ true → member n v.roles ≡ true) (ns : List Text) where
    shared : ℕ → Bool
    shared i = owns v ns i && (listed v i && f (role v i))

    shared_none : any_of f ns ≡ false → (i : ℕ) → shared i ≡ false
    unfolding shared
    shared_none e i =
        not_so (shared i) (λ t.
        never (any_of f ns) ((any_plain f ns).1 (
          role v i,
          (member_plain (role v i) ns).0 (and_right (listed v i) _ (and_left (owns v ns i) _ t)),
          and_right (listed v i) _ (and_right (owns v ns i) _ t),
        )) e)

    shared_some : any_of f ns ≡ true → set_of 32 shared ≡ 0 → ⊥
    unfolding shared
    shared_some e z =
        let r = (any_plain f ns).0 e in
        let i : ℕ = index_of r.0 v.roles in
        let h : i < length v.roles = ltb-true _ _ (index_member r.0 v.roles ∙ named r.0 r.2) in
        let d : digit i (set_of 32 shared) ≡ 1 = digit_set 32 shared i (omega arith) ∙ rw (lt-ltb _ _ h, index_here r.0 v.roles h, (member_plain r.0 ns).1 r.1, r.2) in
        let y : 0 / 2 ^ i % 2 ≡ 1 = rw z at d in
        omega (arith, zero-div (2 ^ i))

    pub role_set_meets : eqb (bit_and (role_set v ns) (set_of 32 (λ i. ltb i (length v.roles) && f (get_or v.roles i [])))) 0 ≡ not (any_of f ns)
    unfolding shared
    role_set_meets = rw (role_set_lem v ns, set_and 32 (owns v ns) (λ i. listed v i && f (role v i))) (go (any_of f ns) refl)
      where
        go : (b : Bool) → any_of f ns ≡ b → eqb (set_of 32 shared) 0 ≡ not b
        go true e = ne_eqb (set_of 32 shared) 0 (shared_some e)
        go false e = eq-eqb (set_of 32 shared) 0 (set_none 32 shared (shared_none e))

  module _ (once : Once v.roles) where
    -- a name that is no role stands nowhere among them
    no_role : (n : Text) → length v.roles ≤ index_of n v.roles → (i : ℕ) → (listed v i && same n (role v i)) ≡ false
    no_role n h i =
        not_so _ (λ t.
        let k : n ≡ role v i = same_equal n (role v i) (and_right (listed v i) _ t) in
        let m : member n v.roles ≡ true = rw k (member_at v.roles i (ltb-true _ _ (and_left _ _ t))) in
        never (member n v.roles) m (sym (index_member n v.roles) ∙ le-ltb _ _ h))

    -- a name more
    owns_more : (ns : List Text) (n : Text) (i : ℕ) → owns v (ns ++ n ∷ []) i ≡ (owns v ns i || (listed v i && same n (role v i)))
    unfolding member
    owns_more ns n i =
        rw (member_append (role v i) ns (n ∷ []), or-false (same n (role v i)))
        (and-or_distrib_left (listed v i) (member (role v i) ns) (same n (role v i)))

    role_set_more : (ns : List Text) (n : Text) → with_role v (role_set v ns) n ≡ role_set v (ns ++ n ∷ [])
    unfolding with_role
    role_set_more ns n = rw (role_set_lem v ns, role_set_lem v (ns ++ n ∷ [])) (go (dec_lt (index_of n v.roles) (length v.roles)))
      where
        go : Dec (index_of n v.roles < length v.roles) → with_role v (set_of 32 (owns v ns)) n ≡ set_of 32 (owns v (ns ++ n ∷ []))
        go (yes h) =
            rw (lt-ltb _ _ h)
            (set_with (owns v ns) (index_of n v.roles) (omega arith)
            ∙ set_same 32 _ _ (λ i k. ap (λ (b : Bool). owns v ns i || b) (sym (stands v.roles once n h i)) ∙ sym (owns_more ns n i)))
        go (no h) =
            let k : length v.roles ≤ index_of n v.roles = omega arith in
            rw (le-ltb _ _ k)
            (set_same 32 _ _ (λ i j. sym (owns_more ns n i ∙ ap (λ (b : Bool). owns v ns i || b) (no_role n k i) ∙ or-false (owns v ns i))))

    -- no name
    role_set_none : 0 ≡ role_set v []
    unfolding member
    role_set_none = sym (role_set_lem v [] ∙ set_none 32 (owns v []) (λ i. and-false (listed v i)))

    -- the lines behind k names: all have to be names, and not too many
    abbrev Behind : ℕ → List Text → List Line → Type 0
    Behind k ns ls = check_names v k (role_set v ns) ls ≡ cond (all_ended_names ls && leb (k + length ls) most_names) (Some (Roles (role_set v (ns ++ names_in ls)))) None

    names_checked : (k : ℕ) (ns : List Text) (ls : List Line) → k ≤ 32 → Behind k ns ls
    unfolding check_names all_ended_names
    names_checked k ns [] h = rw (append-nil ns, le-leb (k + 0) 32 (omega arith))
    names_checked k ns (n ∷ ls) h = go (is_ended_name n) (dec_lt k 32) (names_checked (suc k) (ns ++ n.bytes ∷ []) ls)
      where
        go : (b : Bool) → Dec (k < 32) → (suc k ≤ 32 → Behind (suc k) (ns ++ n.bytes ∷ []) ls)
            → cond b (cond (leb most_names k) None (check_names v (suc k) (with_role v (role_set v ns) n.bytes) ls)) None
            ≡ cond ((b && all_ended_names ls) && leb (k + suc (length ls)) most_names) (Some (Roles (role_set v (ns ++ n.bytes ∷ names_in ls)))) None
        go false d again = refl
        go true (yes j) again =
            let e : k + suc (length ls) ≡ suc k + length ls = omega arith in
            rw (lt-leb 32 k j, role_set_more ns n.bytes, e, ← append_assoc ns (n.bytes ∷ []) (names_in ls)) (again j)
        go true (no j) again = rw (le-leb 32 k (omega arith), lt-leb (k + suc (length ls)) 32 (omega arith), and-false (all_ended_names ls))

    -- the caller that the view sees is the one that Requests reads
    pub caller_checked : (login : ℕ) (names : Text) → check_caller v login names ≡ checked_as v (caller_of login names)
    unfolding check_caller caller_of
    caller_checked zero [] = refl
    caller_checked zero (x ∷ xs) = refl
    caller_checked (suc zero) t =
        ap (λ (x : ℕ). check_names v 0 x (lines_of t)) role_set_none
        ∙ rw zero-add at (names_checked 0 [] (lines_of t) (omega arith))
        ∙ go (all_ended_names (lines_of t) && leb (length (lines_of t)) most_names)
      where
        go : (b : Bool) → cond b (Some (Roles (role_set v (names_in (lines_of t))))) None ≡ checked_as v (cond b (some (logged_in (names_in (lines_of t)))) none)
        go true = refl
        go false = refl
    caller_checked (suc (suc n)) t = refl

    -- it is bad exactly where Requests reads none
    pub checked_bad : (login : ℕ) (names : Text) → (check_caller v login names ≡ None) ↔ (caller_of login names ≡ none)
    checked_bad login names = rw (caller_checked login names) (go (caller_of login names))
      where
        go : (c : Option Caller) → (checked_as v c ≡ None) ↔ (c ≡ none)
        go none = (λ e. refl, λ e. refl)
        go (some c) = (λ e. cc, λ e. cc)

    -- and else the caller that it reads
    pub checked_good : (login : ℕ) (names : Text) (c : Caller) (w : Who) → caller_of login names ≡ some c → check_caller v login names ≡ Some w → w ≡ who_as v c
    checked_good login names c w e h = let g : Some w ≡ Some (who_as v c) = sym h ∙ caller_checked login names ∙ ap (checked_as v) e in cc
