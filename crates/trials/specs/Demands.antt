-- What is proved of comparing, in the customer's words, as types: proofs/NoWider, proofs/Bounds and proofs/AnswersTell have the proofs.
use Rattle.std.specs.Prelude.{◌≡◌, true, false, ◌⊎◌, ◌↔◌, ◌≤◌, length}
use mathlib.Core.List.{List, ◌∷◌, ◌++◌, Memᴰ}
use Rattle.std.proofs.Math.Option.{none, some}
use Rattle.text.specs.Texts.{Text, semicolon, has}
use Rattle.names.specs.Names.{is_role_name}
use Rattle.listings.specs.Listings.{Listing}
use Rattle.decisions.specs.Paths.{dropped}
use Rattle.decisions.specs.Requests.{Caller, nobody, Request}
use Rattle.trials.specs.Trials.{one, trial_paths, trials}
use Rattle.trials.specs.Verdicts.{WellFormed, Widening, verdict}
use Rattle.trials.specs.Answers.{answer_of}

-- no trial widens exactly when no request at all, whatever its path as received, is granted by new and denied by old
abbrev pub NoWider : Listing → Listing → Type 0
NoWider old new = (verdict old new ≡ none) ↔ ((r : Request) → WellFormed r → Widening old new r → ⊥)

-- "Trial paths stay": none has a `;`, so each is what is left of it without parameters
abbrev pub TrialPathsKept : Listing → Listing → Type 0
TrialPathsKept old new = (x : Text) → Memᴰ x (trial_paths old new) → (has semicolon x ≡ false) × (dropped x ≡ x)

-- not logged in, or logged in with one role
abbrev pub NobodyOrOne : Caller → Type 0
NobodyOrOne c = (c ≡ nobody) ⊎ ((n : Text) × (c ≡ one n) × (is_role_name n ≡ true))

-- what the verdict shows, if anything
pub record Shown (old new : Listing) (r : Request) : Type 0 where
  -- a request that a call can ask, of one who is not logged in or has one role
  pub formed : WellFormed r
  pub caller : NobodyOrOne r.caller
  -- granted by new, denied by old
  pub widening : Widening old new r
  -- and the first such trial
  pub before : List Request
  pub after : List Request
  pub split : trials old new ≡ before ++ r ∷ after
  pub earlier : (q : Request) → Memᴰ q before → Widening old new q → ⊥

abbrev pub Wider : Listing → Listing → Type 0
Wider old new = (r : Request) → verdict old new ≡ some r → Shown old new r

-- "The answer goes to a lent buffer" of at least 1,024 bytes
abbrev pub AnswerFits : Listing → Listing → Type 0
AnswerFits old new = length (answer_of (verdict old new)) ≤ 1024

-- equal answers, equal verdicts
abbrev pub AnswerTells : Listing → Listing → Listing → Listing → Type 0
AnswerTells old new old' new' = answer_of (verdict old new) ≡ answer_of (verdict old' new') → verdict old new ≡ verdict old' new'
