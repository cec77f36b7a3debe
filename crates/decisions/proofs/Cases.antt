-- 01's worked requests 1 to 11, requests with parameters in their paths, and 01's bad callers, as tables that antt computes from the bytes of the listings and of the callers' names.
use mathlib.Core.Path.{◌≡◌, refl}
use mathlib.Core.List.{[], ◌∷◌, ◌++◌, map}
use mathlib.Core.Option.{none, some}
use Rattle.text.specs.Texts.{Text, bytes}
use Rattle.text.specs.Bytes.{is_text}
use Rattle.listings.specs.Records.{names_role}
use Rattle.names.specs.Names.{is_role_name}
use Rattle.listings.specs.Listings.{listing_of}
use Rattle.decisions.specs.Paths.{dropped}
use Rattle.decisions.specs.Requests.{nobody, logged_in, caller_of}
use Rattle.decisions.specs.Decisions.{decide}
use Rattle.decisions.specs.Worked.{listing_l, undeclared, asked, answers, last_asked, received, left_over, endings, gets, parameter_answers, ending_answers}
use Rattle.decisions.specs.declared.answers.Answer.TheVariants.{ByRole}

pub worked_requests : map (decide (listing_of listing_l)) asked ≡ answers
unfolding listing_l asked answers names_role decide listing_of
worked_requests = refl

pub worked_11 : decide (listing_of undeclared) last_asked ≡ ByRole
unfolding undeclared last_asked names_role decide listing_of
worked_11 = refl

-- 02: "The gateway hands us `/clock/offset;s=12`", which gets its exact pattern, and parameters elsewhere
pub parameters_dropped : map dropped received ≡ left_over
unfolding received left_over dropped
parameters_dropped = refl

pub parameters_decided : map (decide (listing_of listing_l)) (gets received) ≡ parameter_answers
unfolding listing_l received parameter_answers names_role decide listing_of
parameters_decided = refl

pub parameters_behind_a_dot : map (decide (listing_of endings)) (gets received) ≡ ending_answers
unfolding endings received ending_answers names_role decide listing_of
parameters_behind_a_dot = refl

-- eight names
abbrev eight : Text
eight = bytes "a\na\na\na\na\na\na\na\n"

-- "bad name, `*`, over 32 names, a last name unended, names though not logged in, a login number above 1"
pub bad_callers :
    caller_of 1 (bytes "a\n b\n") ∷ caller_of 1 (bytes "\n") ∷ caller_of 1 (bytes "*\n") ∷ caller_of 1 (eight ++ eight ++ eight ++ eight ++ bytes "a\n")
    ∷ caller_of 1 (bytes "a\nb") ∷ caller_of 0 (bytes "a\n") ∷ caller_of 2 [] ∷ []
    ≡ none ∷ none ∷ none ∷ none ∷ none ∷ none ∷ none ∷ []
unfolding caller_of is_role_name is_text
bad_callers = refl

-- and good ones: nobody, no role, two roles, 32 names
pub good_callers :
    caller_of 0 [] ∷ caller_of 1 [] ∷ caller_of 1 (bytes "a\nb c\n") ∷ []
    ≡ some nobody ∷ some (logged_in []) ∷ some (logged_in (bytes "a" ∷ bytes "b c" ∷ [])) ∷ []
unfolding caller_of is_role_name is_text
good_callers = refl
