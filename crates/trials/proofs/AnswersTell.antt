-- The answer's text fits its buffer and tells the verdict: two answers with the same bytes show the same request, or both show none.
use mathlib.Core.Path.{◌≡◌, refl, sym, ap, ◌∙◌}
use mathlib.Core.Bool.{Bool, true, false}
use mathlib.Core.List.Memᴰ
use mathlib.Core.List.{[], ◌∷◌, ◌++◌, append_assoc}
use mathlib.Core.Logic.{inl, inr}
use mathlib.Core.Option.{Option, none, some}
use Prim.Native.Nat.{ℕ, ◌+◌, ◌≤◌}
use native.Mathlib.Omega.{arith}
use lib.ListN.{length, length-append, get_or, drop}
use Rattle.text.specs.Texts.{Text, bytes, tab, newline, all, starts_with}
use Rattle.text.specs.Bytes.{is_text, is_token}
use Rattle.names.specs.Names.{made_of, is_role_name, is_method_name}
use Rattle.listings.specs.Listings.{Listing}
use Rattle.listings.specs.Propers.{Proper}
use Rattle.text.proofs.Truths.{never, and_left, and_right}
use Rattle.decisions.specs.Requests.{Caller, Request, request, is_path, is_method}
use Rattle.trials.specs.Trials.{one}
use Rattle.trials.specs.Verdicts.{WellFormed, verdict}
use Rattle.trials.specs.Answers.{line_of, caller_fields, answer_of}
use Rattle.trials.specs.Demands.{NobodyOrOne, AnswerFits, AnswerTells}
use Rattle.trials.proofs.Insides.{cons_same}
use Rattle.trials.proofs.Bounds.{made_short, made_bytes, role_made, path_short}
use Rattle.trials.proofs.Widenings.{trial_parts}
use Rattle.trials.proofs.NoWider.{wider}

-- ---- how long the lines are
line_two : (f g : Text) → length (line_of (f ∷ g ∷ [])) ≡ length f + length g + 2
unfolding line_of
line_two f g = length-append f (tab ∷ (g ++ newline ∷ [])) ∙ rw (length-append g (newline ∷ [])) (omega arith)

line_three : (f g h : Text) → length (line_of (f ∷ g ∷ h ∷ [])) ≡ length f + length g + length h + 3
unfolding line_of
line_three f g h = length-append f (tab ∷ line_of (g ∷ h ∷ [])) ∙ rw (line_two g h) (omega arith)

caller_short : (c : Caller) → NobodyOrOne c → length (line_of (caller_fields c)) ≤ 77
caller_short c (inl e) = rw (e, line_two (bytes "caller") (bytes "none")) (omega arith)
caller_short c (inr r) =
    let l = made_short is_text 1 64 r.0 (role_made r.0 r.2) in
    rw (r.1, line_three (bytes "caller") (bytes "role") r.0) (omega arith)

method_short : (m : Text) → is_method m ≡ true → length m ≤ 24
unfolding is_method_name
method_short m h = made_short is_token 1 24 m h

answer_length : (r : Request) → length (answer_of (some r)) ≡ 28 + length r.path + length r.method + length (line_of (caller_fields r.caller))
unfolding answer_of
answer_length r =
    let v : Text = line_of (bytes "verdict" ∷ bytes "wider" ∷ []) in
    let p : Text = line_of (bytes "path" ∷ r.path ∷ []) in
    let m : Text = line_of (bytes "method" ∷ r.method ∷ []) in
    let c : Text = line_of (caller_fields r.caller) in
    let a = length-append (v ++ p ++ m) c in
    let b = length-append (v ++ p) m in
    let d = length-append v p in
    let e = line_two (bytes "verdict") (bytes "wider") in
    let f = line_two (bytes "path") r.path in
    let g = line_two (bytes "method") r.method in
    omega arith

-- the answer that shows none has 17 bytes
pub no_wider_length : length (answer_of none) ≡ 17
unfolding answer_of
no_wider_length = line_two (bytes "verdict") (bytes "no wider")

-- and one that shows a request has more
pub wider_length : (r : Request) → 28 ≤ length (answer_of (some r))
wider_length r = rw (answer_length r) (omega arith)

-- the answer fits every buffer that is not refused
pub answer_fits : (old new : Listing) → Proper old → Proper new → AnswerFits old new
answer_fits old new O N = go (verdict old new) refl
  where
    go : (v : Option Request) → verdict old new ≡ v → length (answer_of v) ≤ 1024
    go none e = rw no_wider_length (omega arith)
    go (some r) e =
        let S = wider old new O N r e in
        let T = trial_parts old new r (rw S.split (Memᴰ.append_right S.before (Memᴰ.head refl))) in
        let p = path_short old new O N r.path T.path_in in
        let m = method_short r.method S.formed.method in
        let c = caller_short r.caller S.caller in
        rw (answer_length r) (omega arith)

-- ---- a byte 10 ends a field of a class that it is not in
-- so equal texts have equal fields, and the same behind them
line_cut : (class : ℕ → Bool) → class newline ≡ false → (s u t v : Text) → all class s ≡ true → all class u ≡ true
    → s ++ newline ∷ t ≡ u ++ newline ∷ v → (s ≡ u) × (t ≡ v)
unfolding all
line_cut class n [] [] t v a b e = (refl, ap (drop 1) e)
line_cut class n [] (y ∷ ys) t v a b e =
    let h : newline ≡ y = ap (λ (x : Text). get_or x 0 0) e in
    absurd (never (class y) (and_left (class y) (all class ys) b) (ap class (sym h) ∙ n))
line_cut class n (x ∷ xs) [] t v a b e =
    let h : x ≡ newline = ap (λ (x : Text). get_or x 0 0) e in
    absurd (never (class x) (and_left (class x) (all class xs) a) (ap class h ∙ n))
line_cut class n (x ∷ xs) (y ∷ ys) t v a b e =
    let h : x ≡ y = ap (λ (x : Text). get_or x 0 0) e in
    let r = line_cut class n xs ys t v (and_right (class x) (all class xs) a) (and_right (class y) (all class ys) b) (ap (drop 1) e) in
    (cons_same h r.0, r.1)

newline_no_text : is_text newline ≡ false
unfolding is_text
newline_no_text = refl

newline_no_token : is_token newline ≡ false
unfolding is_token
newline_no_token = refl

path_bytes : (p : Text) → is_path p ≡ true → all is_text p ≡ true
unfolding is_path
path_bytes p h = made_bytes is_text 1 1024 p (and_left (made_of is_text 1 1024 p) (starts_with (bytes "/") p) h)

method_bytes : (m : Text) → is_method m ≡ true → all is_token m ≡ true
unfolding is_method_name
method_bytes m h = made_bytes is_token 1 24 m h

role_bytes : (n : Text) → is_role_name n ≡ true → all is_text n ≡ true
role_bytes n h = made_bytes is_text 1 64 n (role_made n h)

-- ---- the caller's line tells the caller
caller_tells : (c d : Caller) → NobodyOrOne c → NobodyOrOne d → line_of (caller_fields c) ≡ line_of (caller_fields d) → c ≡ d
unfolding line_of
caller_tells c d (inl a) (inl b) e = a ∙ sym b
caller_tells c d (inl a) (inr b) e = let z : ◌≡◌ {A = ℕ} 110 114 = ap (λ (t : Text). get_or t 7 0) (rw (a, b.1) at e) in absurd (omega arith)
caller_tells c d (inr a) (inl b) e = let z : ◌≡◌ {A = ℕ} 114 110 = ap (λ (t : Text). get_or t 7 0) (rw (a.1, b) at e) in absurd (omega arith)
caller_tells c d (inr a) (inr b) e =
    let r = line_cut is_text newline_no_text a.0 b.0 [] [] (role_bytes a.0 a.2) (role_bytes b.0 b.2) (ap (drop 12) (rw (a.1, b.1) at e)) in
    a.1 ∙ ap one r.0 ∙ sym b.1

-- ---- the four lines tell the request
-- what stands behind the path's line
abbrev behind_path : Request → Text
behind_path r = bytes "method\t" ++ (r.method ++ newline ∷ line_of (caller_fields r.caller))

four_lines : (r : Request) → answer_of (some r) ≡ bytes "verdict\twider\npath\t" ++ (r.path ++ newline ∷ behind_path r)
unfolding answer_of line_of
four_lines r = simp append_assoc

-- of requests that a call can ask, of one who is not logged in or has one role
pub request_tells : (r q : Request) → WellFormed r → WellFormed q → NobodyOrOne r.caller → NobodyOrOne q.caller
    → answer_of (some r) ≡ answer_of (some q) → r ≡ q
request_tells r q F G c d e =
    let p =
    line_cut is_text newline_no_text r.path q.path (behind_path r) (behind_path q) (path_bytes r.path F.path) (path_bytes q.path G.path)
    (ap (drop 19) (sym (four_lines r) ∙ e ∙ four_lines q)) in
    let m =
    line_cut is_token newline_no_token r.method q.method (line_of (caller_fields r.caller)) (line_of (caller_fields q.caller))
    (method_bytes r.method F.method) (method_bytes q.method G.method) (ap (drop 7) p.1) in
    let k = caller_tells r.caller q.caller c d m.1 in
    λ i. request (p.0 i) (m.0 i) (k i)

-- and are never the one line
pub none_tells : (r : Request) → answer_of none ≡ answer_of (some r) → ⊥
none_tells r e =
    let l = wider_length r in
    let n : length (answer_of (some r)) ≡ 17 = sym (ap length e) ∙ no_wider_length in
    omega arith

-- ---- equal answers, equal verdicts
pub answer_tells : (old new old' new' : Listing) → Proper old → Proper new → Proper old' → Proper new' → AnswerTells old new old' new'
answer_tells old new old' new' O N O' N' = go (verdict old new) (verdict old' new') refl refl
  where
    go : (v v' : Option Request) → verdict old new ≡ v → verdict old' new' ≡ v' → answer_of v ≡ answer_of v' → v ≡ v'
    go none none e f h = refl
    go none (some q) e f h = absurd (none_tells q h)
    go (some r) none e f h = absurd (none_tells r (sym h))
    go (some r) (some q) e f h =
        let S = wider old new O N r e in
        let T = wider old' new' O' N' q f in
        ap some (request_tells r q S.formed T.formed S.caller T.caller h)
