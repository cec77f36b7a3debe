-- The verdict is right, over all requests: it is none exactly where no request at all is granted by the new listing and denied by the old one,
-- and else it is the first trial that is. Nothing is assumed but that both listings are proper, as every accepted one is.
use mathlib.Core.Path.{◌≡◌, refl}
use mathlib.Core.Bool.{true}
use mathlib.Core.Option.{Option, none, some}
use Rattle.text.specs.Texts.{Text, bytes, starts_with}
use Rattle.text.specs.Bytes.{is_text}
use Rattle.names.specs.Names.{made_of}
use Rattle.listings.specs.Listings.{Listing}
use Rattle.listings.specs.Propers.{Proper}
use Rattle.text.proofs.Truths.{never, and_right}
use Rattle.decisions.specs.Requests.{Request, is_path}
use Rattle.trials.specs.Trials.{trials}
use Rattle.trials.specs.Verdicts.{WellFormed, Widening, widens, verdict}
use Rattle.trials.specs.Demands.{NoWider, Shown, Wider}
use Rattle.trials.proofs.StandIns.{rooted}
use Rattle.trials.proofs.Choices.{first_none, FirstIn, first_listed, first_some_lem}
use Rattle.trials.proofs.Bounds.{caller_good, trial_good}
use Rattle.trials.proofs.Widenings.{widens_plain, trial_parts, trial_for}

-- a path starts with `/`
path_rooted : (p : Text) → is_path p ≡ true → rooted p
unfolding is_path
path_rooted p h = and_right (made_of is_text 1 1024 p) (starts_with (bytes "/") p) h

module _ (old new : Listing) (O : Proper old) (N : Proper new) where
  trial_shown : (r : Request) → FirstIn (widens old new) (trials old new) r → Shown old new r
  trial_shown r F =
      let T = trial_parts old new r (first_listed (widens old new) (trials old new) r F) in
      record {
        formed = trial_good old new O N r T.path_in T.method_in T.caller_in_lem;
        caller = caller_good old new O N r.caller T.caller_in_lem;
        widening = (widens_plain old new r).0 F.passes;
        before = F.before;
        after = F.after;
        split = F.split;
        earlier = λ q m W. never (widens old new q) ((widens_plain old new q).1 W) (F.earlier q m);
      }

  -- what the verdict shows is well formed, granted by new, denied by old, and the first such trial
  pub wider : Wider old new
  unfolding verdict
  wider r e = trial_shown r (first_some_lem (widens old new) (trials old new) r e)

  -- no request, well formed or not but for its path's first byte
  pub none_widens : verdict old new ≡ none → (r : Request) → rooted r.path → Widening old new r → ⊥
  unfolding verdict
  none_widens e r s W =
      let x = trial_for old new O N r s W in
      never (widens old new x.0) ((widens_plain old new x.0).1 x.2) (first_none (widens old new) (trials old new) e x.0 x.1)

  widens_none : ((r : Request) → WellFormed r → Widening old new r → ⊥) → verdict old new ≡ none
  widens_none h = go (verdict old new) refl
    where
      go : (o : Option Request) → verdict old new ≡ o → o ≡ none
      go none e = refl
      go (some r) e = let S = wider r e in absurd (h r S.formed S.widening)

  -- the verdict is none exactly where no request at all is granted by new and denied by old
  pub no_wider : NoWider old new
  no_wider = (λ e r F. none_widens e r (path_rooted r.path F.path), widens_none)
