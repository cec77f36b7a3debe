-- The trials of two accepted listings are requests that a call can ask: their fillers exist, their paths, methods and callers are well formed,
-- and their paths have no parameters.
use mathlib.Core.Path.{◌≡◌, refl, sym, ap, ◌∙◌}
use mathlib.Core.Bool.{Bool, true, false, not, ◌&&◌}
use mathlib.Core.List.Memᴰ
use mathlib.Core.List.{List, [], ◌∷◌, ◌++◌, map, Memᴰ}
use mathlib.Core.Logic.{◌⊎◌, inl, inr, ⊎_elim}
use mathlib.Core.Option.{some}
use Prim.Native.Nat.{ℕ, ◌+◌, ◌*◌, ◌≤◌, ◌<◌}
use native.Mathlib.Omega.{arith}
use lib.ListN.{length, length-append}
use lib.Dec.{eqb, leb}
use borrow.Author.Tests.{le-leb, leb-true, ne_eqb, not-true}
use Rattle.text.specs.Texts.{Text, bytes, newline, slash, dot, semicolon, has, all, starts_with, ends_with, member}
use Rattle.text.specs.Bytes.{between, is_text, is_token}
use Rattle.text.specs.Lines.{before, lines_of}
use Rattle.names.specs.Patterns.{kind_of, is_permitted}
use Rattle.names.specs.Names.{made_of, is_name, is_role_name, is_method_name, is_pattern}
use Rattle.limits.specs.Limits.{most_methods}
use Rattle.listings.specs.Listings.{Listing, patterns_of}
use Rattle.text.proofs.Truths.{never, and_left, and_right, and_both, or_left, or_right}
use Rattle.text.proofs.Classes.{text_no_newline}
use Rattle.names.proofs.Plainly.{member_plain, member_append}
use Rattle.listings.specs.Propers.{Proper}
use Rattle.decisions.proofs.Droppings.{dropped_none}
use Rattle.decisions.specs.Requests.{Caller, nobody, Request, is_path, all_ended_names, caller_of}
use Rattle.trials.specs.Fillers.{first_number, fills, filler, is_unnamed, filler_method, filler_of, First, Filler}
use Rattle.trials.specs.Trials.{joined, trial_paths, methods_tried, trial_methods, one, trial_names, trial_callers}
use Rattle.trials.specs.Verdicts.{WellFormed}
use Rattle.trials.specs.Demands.{TrialPathsKept, NobodyOrOne}
use Rattle.trials.proofs.Insides.{neither, or_first, or_second}
use Rattle.trials.proofs.StandIns.{rooted}
use Rattle.trials.proofs.Forms.{Form, trial_form, form_rooted, form_short, form_bytes}
use Rattle.trials.proofs.FillersExist.{total, filler_is_first, filler_fills, filler_short, filler_bytes, method_is_first, method_unnamed, method_short, method_bytes}
use Rattle.trials.proofs.Choices.{joined_of}

-- ---- sums
pub total_append : (s t : List Text) → total (s ++ t) ≡ total s + total t
unfolding total
total_append [] t = omega arith
total_append (x ∷ xs) t = let h = total_append xs t in omega arith

pub total_most : (ts : List Text) → ((t : Text) → Memᴰ t ts → length t ≤ 255) → total ts ≤ 255 * length ts
unfolding total
total_most [] h = omega arith
total_most (t ∷ ts) h =
    let a = h t (Memᴰ.head refl) in
    let b = total_most ts (λ u m. h u (Memᴰ.tail m)) in
    omega arith

-- ---- classes
in_between : (a e b : ℕ) → a ≤ b → b ≤ e → between a e b ≡ true
in_between a e b h k = and_both (leb a b) (leb b e) (le-leb a b h) (le-leb b e k)

digit_text : (d : ℕ) → d < 10 → is_text (48 + d) ≡ true
unfolding is_text
digit_text d h = or_first (between 32 126 (48 + d)) (between 128 255 (48 + d)) (in_between 32 126 (48 + d) (omega arith) (omega arith))

digit_token : (d : ℕ) → d < 10 → is_token (48 + d) ≡ true
unfolding is_token
digit_token d h =
    or_second (between 65 90 (48 + d)) _ (or_second (between 97 122 (48 + d)) _
    (or_first (between 48 57 (48 + d)) _ (in_between 48 57 (48 + d) (omega arith) (omega arith))))

text_slash : is_text slash ≡ true
unfolding is_text
text_slash = refl

text_dot : is_text dot ≡ true
unfolding is_text
text_dot = refl

text_q : is_text 113 ≡ true
unfolding is_text
text_q = refl

token_Q : is_token 81 ≡ true
unfolding is_token
token_Q = refl

-- ---- what is made of a class, in words
module _ (class : ℕ → Bool) (lo hi : ℕ) (t : Text) where
  made : lo ≤ length t → length t ≤ hi → all class t ≡ true → made_of class lo hi t ≡ true
  made h k e = and_both (between lo hi (length t)) (all class t) (in_between lo hi (length t) h k) e

  pub made_short : made_of class lo hi t ≡ true → length t ≤ hi
  made_short e = leb-true (length t) hi (and_right (leb lo (length t)) (leb (length t) hi) (and_left (between lo hi (length t)) (all class t) e))

  pub made_bytes : made_of class lo hi t ≡ true → all class t ≡ true
  made_bytes e = and_right (between lo hi (length t)) (all class t) e

-- ---- a pattern: short, of text bytes, without a `;`, of a permitted kind
module _ (t : Text) (h : is_pattern t ≡ true) where
  pub pattern_short : length t ≤ 255
  unfolding is_pattern
  pattern_short = made_short is_text 0 255 t (and_left (made_of is_text 0 255 t) _ h)

  pattern_bytes : all is_text t ≡ true
  unfolding is_pattern
  pattern_bytes = made_bytes is_text 0 255 t (and_left (made_of is_text 0 255 t) _ h)

  semicolon_and_kind : (not (has semicolon t) && is_permitted (kind_of t)) ≡ true
  unfolding is_pattern
  semicolon_and_kind = and_right (not (ends_with (bytes " ") t)) _ (and_right (made_of is_text 0 255 t) _ h)

  pattern_without : has semicolon t ≡ false
  pattern_without = not-true (has semicolon t) (and_left (not (has semicolon t)) (is_permitted (kind_of t)) semicolon_and_kind)

  pub pattern_permitted : is_permitted (kind_of t) ≡ true
  pattern_permitted = and_right (not (has semicolon t)) (is_permitted (kind_of t)) semicolon_and_kind

-- what a role name is made of
pub role_made : (n : Text) → is_role_name n ≡ true → made_of is_text 1 64 n ≡ true
unfolding is_role_name is_name
role_made n h = and_left (made_of is_text 1 64 n) _ (and_left (is_name n) _ h)

-- a text that starts with `/` has a byte
rooted_some : (t : Text) → rooted t → 1 ≤ length t
unfolding starts_with
rooted_some [] h = absurd (never false h refl)
rooted_some (x ∷ xs) h = omega arith

-- ---- a text without a byte
is_other : ℕ → ℕ → Bool
is_other b x = not (eqb b x)

without_all : (b : ℕ) (t : Text) → has b t ≡ false → all (is_other b) t ≡ true
unfolding has all is_other
without_all b [] h = refl
without_all b (x ∷ xs) h = rw (or_left (eqb b x) (has b xs) h) (without_all b xs (or_right (eqb b x) (has b xs) h))

all_without : (b : ℕ) (t : Text) → all (is_other b) t ≡ true → has b t ≡ false
unfolding has all is_other
all_without b [] h = refl
all_without b (x ∷ xs) h =
    neither (eqb b x) (has b xs) (not-true (eqb b x) (and_left (not (eqb b x)) (all (is_other b) xs) h)) (all_without b xs (and_right (not (eqb b x)) (all (is_other b) xs) h))

-- ---- a role name in a line of its own is a caller's
one_line : (n : Text) → all is_text n ≡ true → lines_of (n ++ newline ∷ []) ≡ record { bytes = n; ended = true } ∷ []
unfolding lines_of before all
one_line [] h = refl
one_line (x ∷ xs) h =
    rw (ne_eqb x newline (text_no_newline x (and_left (is_text x) (all is_text xs) h)), one_line xs (and_right (is_text x) (all is_text xs) h))

-- so one role is a caller's, logged in
pub one_called : (n : Text) → is_role_name n ≡ true → caller_of 1 (n ++ newline ∷ []) ≡ some (one n)
unfolding caller_of all_ended_names
one_called n h = rw (one_line n (made_bytes is_text 1 64 n (role_made n h)), h)

-- one who is not logged in is a caller, too
pub nobody_called : caller_of 0 [] ≡ some nobody
unfolding caller_of
nobody_called = refl

-- so each of them is what a login number and a text of names give
caller_called : (c : Caller) → NobodyOrOne c → (login : ℕ) × (names : Text) × (caller_of login names ≡ some c)
caller_called c (inl e) = (0, [], rw e nobody_called)
caller_called c (inr r) = (1, r.0 ++ newline ∷ [], rw r.1 (one_called r.0 r.2))

-- ---- of two lists
each : (P : Text → Type 0) (s t : List Text) → ((x : Text) → Memᴰ x s → P x) → ((x : Text) → Memᴰ x t → P x) → (x : Text) → Memᴰ x (s ++ t) → P x
each P s t f g x m = ⊎_elim (f x) (g x) (Memᴰ.append_cases s m)

each_joined : (P : Text → Type 0) (s t : List Text) → ((x : Text) → Memᴰ x s → P x) → ((x : Text) → Memᴰ x t → P x) → (x : Text) → Memᴰ x (joined s t) → P x
each_joined P s t f g x m = ⊎_elim (f x) (g x) (joined_of x s t m)

-- ---- the methods tried, where old has the methods os and new the methods ns
module _ (os ns : List Text) (few-old : length os ≤ most_methods) (few-new : length ns ≤ most_methods) where
  methods_few : length (ns ++ os) < 100000
  methods_few = rw (length-append ns os) (omega arith)

  -- the filler method's number is the first that will do, of all numbers
  unnamed_first : First (is_unnamed (ns ++ os)) 0 (first_number (is_unnamed (ns ++ os)))
  unnamed_first = (method_is_first (ns ++ os) methods_few).0

  -- it is named in neither
  pub unnamed_in_both : (member (filler_method (ns ++ os)) ns ≡ false) × (member (filler_method (ns ++ os)) os ≡ false)
  unnamed_in_both =
      let m : Text = filler_method (ns ++ os) in
      let e = sym (member_append m ns os) ∙ method_unnamed (ns ++ os) methods_few in
      (or_left (member m ns) (member m os) e, or_right (member m ns) (member m os) e)

-- each of them is a method
filler_method_good : (ms : List Text) → is_method_name (filler_method ms) ≡ true
unfolding is_method_name
filler_method_good ms = let s = method_short ms in made is_token 1 24 (filler_method ms) s.0 (omega arith) (method_bytes is_token token_Q digit_token ms)

pub tried_good : (os ns : List Text) → ((m : Text) → member m os ≡ true → is_method_name m ≡ true) → ((m : Text) → member m ns ≡ true → is_method_name m ≡ true)
    → (x : Text) → Memᴰ x (methods_tried os ns) → is_method_name x ≡ true
unfolding methods_tried
tried_good os ns Good-old Good-new x m = go (Memᴰ.append_cases (joined ns os) m)
  where
    go : Memᴰ x (joined ns os) ⊎ Memᴰ x (filler_method (ns ++ os) ∷ []) → is_method_name x ≡ true
    go (inl i) = each_joined (λ (t : Text). is_method_name t ≡ true) ns os (λ t k. Good-new t ((member_plain t ns).1 k)) (λ t k. Good-old t ((member_plain t os).1 k)) x i
    go (inr i) = rw (Memᴰ.eq_of_singleton i) (filler_method_good (ns ++ os))

module _ (old new : Listing) (O : Proper old) (N : Proper new) where
  texts_small : total (patterns_of new ++ patterns_of old) < 65536
  texts_small =
      let a = total_most (patterns_of new) N.short_patterns in
      let b = total_most (patterns_of old) O.short_patterns in
      let c = N.few_patterns in
      let d = O.few_patterns in
      rw (total_append (patterns_of new) (patterns_of old)) (omega arith)

  -- their numbers are the first that will do, of all numbers
  pub filler_of_first : First (fills (patterns_of new ++ patterns_of old)) 0 (first_number (fills (patterns_of new ++ patterns_of old)))
  filler_of_first = (filler_is_first (patterns_of new ++ patterns_of old) (omega (arith, texts_small))).0

  -- the filler's is below 65,536
  pub filler_of_small : first_number (fills (patterns_of new ++ patterns_of old)) < 65536
  filler_of_small = omega (arith, texts_small, (filler_is_first (patterns_of new ++ patterns_of old) (omega (arith, texts_small))).1)

  pub method_of_first : First (is_unnamed (new.methods ++ old.methods)) 0 (first_number (is_unnamed (new.methods ++ old.methods)))
  method_of_first = unnamed_first old.methods new.methods O.few_methods N.few_methods

  -- the filler is one
  pub filler_of_fills : Filler (filler_of old new) (patterns_of new ++ patterns_of old)
  unfolding filler_of
  filler_of_fills = filler_fills (patterns_of new ++ patterns_of old) (omega (arith, texts_small))

  -- a trial path has 517 bytes at most
  form_of : (x : Text) → Memᴰ x (trial_paths old new) → Form (filler_of old new) (patterns_of new ++ patterns_of old) x
  unfolding trial_paths
  form_of x m = trial_form (filler_of old new) (patterns_of new ++ patterns_of old) x m

  pub path_short : (x : Text) → Memᴰ x (trial_paths old new) → length x ≤ 517
  unfolding filler_of
  path_short x m =
      let ts : List Text = patterns_of new ++ patterns_of old in
      let s = form_short ts 255 (each (λ (t : Text). length t ≤ 255) (patterns_of new) (patterns_of old) N.short_patterns O.short_patterns) (filler ts) x (form_of x m) in
      let l = filler_short ts in
      omega arith

  -- and is a path
  pub path_good : (x : Text) → Memᴰ x (trial_paths old new) → is_path x ≡ true
  unfolding is_path filler_of
  path_good x m =
      let ts : List Text = patterns_of new ++ patterns_of old in
      let F = form_of x m in
      let r : rooted x = form_rooted (filler_of old new) ts x F in
      let s = path_short x m in
      let some = rooted_some x r in
      and_both (made_of is_text 1 1024 x) (starts_with (bytes "/") x)
      (made is_text 1 1024 x some (omega arith)
      (form_bytes is_text text_slash text_dot ts
      (each (λ (t : Text). all is_text t ≡ true) (patterns_of new) (patterns_of old) (λ t i. pattern_bytes t (N.good_patterns t i)) (λ t i. pattern_bytes t (O.good_patterns t i)))
      (filler ts) (filler_bytes is_text text_q digit_text ts) x F)) r

  -- it has no `;`: the patterns have none, and the filler has none
  pub path_without : (x : Text) → Memᴰ x (trial_paths old new) → has semicolon x ≡ false
  unfolding is_other filler_of
  path_without x m =
      let ts : List Text = patterns_of new ++ patterns_of old in
      all_without semicolon x
      (form_bytes (is_other semicolon) refl refl ts
      (each (λ (t : Text). all (is_other semicolon) t ≡ true) (patterns_of new) (patterns_of old)
      (λ t i. without_all semicolon t (pattern_without t (N.good_patterns t i))) (λ t i. without_all semicolon t (pattern_without t (O.good_patterns t i))))
      (filler ts) (filler_bytes (is_other semicolon) refl (λ d h. ap not (ne_eqb semicolon (48 + d) (λ e. omega arith))) ts) x (form_of x m))

  -- so it is decided on as it is
  pub trial_path_kept : TrialPathsKept old new
  trial_path_kept x m = (path_without x m, dropped_none x (path_without x m))

  -- a trial method is a method
  pub method_good : (x : Text) → Memᴰ x (trial_methods old new) → is_method_name x ≡ true
  unfolding trial_methods
  method_good = tried_good old.methods new.methods O.good_methods N.good_methods

  -- a trial caller is not logged in, or has one role
  pub caller_good : (c : Caller) → Memᴰ c (trial_callers old new) → NobodyOrOne c
  unfolding trial_callers trial_names
  caller_good c m = go (Memᴰ.cases_cons m)
    where
      go : (c ≡ nobody) ⊎ Memᴰ c (map one (trial_names old new)) → NobodyOrOne c
      go (inl e) = inl e
      go (inr i) =
          let r = Memᴰ.of_map one (trial_names old new) i in
          inr (
            r.0,
            sym r.2,
            each_joined (λ (n : Text). is_role_name n ≡ true) new.roles old.roles (λ n k. N.good_roles n ((member_plain n new.roles).1 k))
                (λ n k. O.good_roles n ((member_plain n old.roles).1 k)) r.0 r.1,
          )

  -- so a request of such parts is one that a call can ask
  pub trial_good : (r : Request) → Memᴰ r.path (trial_paths old new) → Memᴰ r.method (trial_methods old new) → Memᴰ r.caller (trial_callers old new)
      → WellFormed r
  trial_good r p m c =
      let k = caller_called r.caller (caller_good r.caller c) in
      record { path = path_good r.path p; method = method_good r.method m; login = k.0; names = k.1; called = k.2 }
