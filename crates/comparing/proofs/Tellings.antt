-- What is told of a hit is its answer, and the walk's hit is a trial: of any two views. Of two listings' views it is the verdict.
use mathlib.Core.Path.{◌≡◌, refl, sym, ap, ◌∙◌}
use mathlib.Core.List.{List, []}
use mathlib.Core.Option as Opt
use Prim.Native.Nat.{ℕ, ◌+◌, ◌≤◌, ◌<◌}
use native.Mathlib.Omega.{arith}
use lib.ListN.{length, get_or}
use lib.Seq.{sets}
use Rattle.std.specs.Prelude.{Option, Some, None}
use Rattle.text.specs.Texts.{Text, bytes}
use Rattle.listings.specs.Refusals.{report}
use Rattle.names.specs.Patterns.{extension, kind_of}
use Rattle.listings.specs.Listings.{listing_of}
use Rattle.decisions.specs.Requests.{request}
use Rattle.reading.specs.Views.{View, view_of}
use Rattle.reading.proofs.Accepted.{accepted_proper}
use Rattle.writing.proofs.Puts.{sets_start}
use Rattle.trials.specs.Answers.{line_of, answer_of}
use Rattle.trials.specs.Fillers.{numbered, filler}
use Rattle.grants.specs.Sides.{caller_at}
use Rattle.grants.specs.Scratch.{texts_of, Numbered, Walkable}
use Rattle.grants.specs.declared.scratch.Counts.{Counts}
use Rattle.walks.specs.Walks.{walked, hit_path, hit_shown}
use Rattle.walks.specs.declared.walking.Hit.{Hit}
use Rattle.walks.proofs.Hits.{walkable, hit_behind, hit_method, hit_caller}
use Rattle.walks.proofs.Verdict.{walked_verdict}
use Rattle.showing.specs.Shown.{tried_of, Telling, EndingIn, FoundIn, found_request}
use Rattle.showing.proofs.Pieces.{wider_short}
use Rattle.comparisons.specs.Outcomes.{answered, compared_both, comparison_for, answer_for}
use Rattle.comparing.specs.Tellings.{BothRead, Prepared, IsFiller, IsTrial, compared_hit}
use Rattle.comparisons.specs.declared.answers.Comparison.{Comparison}

-- ---- what is told
-- nothing is found
module _ (old new : View) (h : Option Hit) (is : h ≡ None) where
  pub none_handed : (r : ℕ) (x : Comparison) → r ≡ 0 + 17 → x ≡ record { report = report 0 0 0; length = r } → x ≡ comparison_for (compared_hit old new h)
  unfolding answer_of line_of
  none_handed r x p e = let q : r ≡ 17 = omega arith in e ∙ rw (q, is)

  pub none_written : (out out' : Text) → 1024 ≤ length out → out' ≡ sets out 0 (bytes "verdict\tno wider\n") → out' ≡ answer_for (compared_hit old new h) out
  unfolding answer_of line_of
  none_written out out' long e = let k : length (bytes "verdict\tno wider\n") ≤ length out = omega arith in rw is (e ∙ sets_start (bytes "verdict\tno wider\n") out k)

-- a hit
module _ (old new : View) (x : List ℕ) (T : Telling old new x) (h : Option Hit) (trial : IsTrial old new h) (n : ℕ)
    (F : IsFiller old new n) (one : Hit) (is : h ≡ Some one) where
  pub found_in : FoundIn old new one
  found_in = rw is at trial

  abbrev text : Text
  text = answer_of (Opt.some (found_request old new n one))

  text_is : answer_of (hit_shown old new h) ≡ text
  unfolding filler
  text_is =
      ap (λ (y : Option Hit). answer_of (hit_shown old new y)) is
      ∙ ap (λ (f : ℕ). answer_of (Opt.some (request (hit_path (numbered (bytes "q") f) (texts_of old new) one.stem one.ending) (get_or (tried_of old new) one.caught.method []) (caller_at new.roles one.caught.caller)))) (sym F)

  short : length text ≤ 1024
  short = wider_short old new x T one found_in n

  pub hit_short : (r : ℕ) → r ≡ length text → r ≤ 1024
  hit_short r p = omega (arith, short)

  pub hit_handed : (r : ℕ) (x : Comparison) → r ≡ length text → x ≡ record { report = report 0 0 0; length = r } → x ≡ comparison_for (compared_hit old new h)
  hit_handed r x p q = q ∙ rw (p, text_is)

  pub hit_written : (out out' : Text) → 1024 ≤ length out → out' ≡ sets out 0 text → out' ≡ answer_for (compared_hit old new h) out
  hit_written out out' long p = rw text_is (p ∙ sets_start text out (omega (arith, short)))

-- ---- the walk's hit
module _ (old new : View) (x : List ℕ) (c : Counts) (P : Prepared old new x c) where
  pub walk_safe : Walkable x c
  walk_safe = walkable old new P.olds P.news x c P.numbers

  pub tells : Telling old new x
  tells = record { olds = P.olds; news = P.news; long = omega (arith, P.numbers.size); methods = rw (← P.numbers.methods.all) P.numbers.methods }

  pub hit_trial : (h : Option Hit) → h ≡ walked x c → IsTrial old new h
  hit_trial None q = tt
  hit_trial (Some h) q = record {
    ending = ends h.ending (hit_behind old new P.news x c P.numbers h (sym q));
    method = hit_method old new P.news x c P.numbers h (sym q);
    caller = hit_caller old new P.news x c P.numbers h (sym q);
  }
    where
      ts : List Text
      ts = texts_of old new

      ends : (e : Option ℕ) → ((i : ℕ) → e ≡ Some i → (i < length ts) × ((t : Text) × (kind_of (get_or ts i []) ≡ extension t))) → EndingIn ts e
      ends None f = tt
      ends (Some i) f = let r = f i refl in (r.0, r.1.0, r.1.1)

-- what is told of it
module _ (old new : View) (h g : Option Hit) (is : h ≡ g) where
  pub walked_handed : (x : Comparison) → x ≡ comparison_for (compared_hit old new h) → x ≡ comparison_for (compared_hit old new g)
  walked_handed x e = e ∙ ap (λ (y : Option Hit). comparison_for (compared_hit old new y)) is

  pub walked_written : (out out' : Text) → out' ≡ answer_for (compared_hit old new h) out → out' ≡ answer_for (compared_hit old new g) out
  walked_written out out' e = e ∙ ap (λ (y : Option Hit). answer_for (compared_hit old new y) out) is

-- ---- of two listings
pub listings_told : (s t : Text) (old new : View) → BothRead s t old new → (x : List ℕ) (c : Counts) → Numbered old new x c → compared_hit old new (walked x c) ≡ compared_both s t
listings_told s t old new B x c Z =
    let Z' : Numbered (view_of (listing_of s)) (view_of (listing_of t)) x c = rw (B.olds.view, B.news.view) at Z in
    rw (B.olds.view, B.news.view)
    (ap (λ (r : Opt.Option _). answered (answer_of r)) (walked_verdict (listing_of s) (listing_of t) (accepted_proper s B.olds.accepts) (accepted_proper t B.news.accepts) x c Z'))
