-- What is known where a hit is shown, and the request that it stands for. For the proofs alone.
use Rattle.std.specs.Prelude.{ℕ, ◌≤◌, ◌<◌, ◌≡◌, List, [], ◌++◌, length, get_or, Option, Some, None}
use Rattle.text.specs.Texts.{Text, bytes}
use Rattle.names.specs.Patterns.{extension, kind_of}
use Rattle.reading.specs.Views.{View, ProperView}
use Rattle.decisions.specs.Requests.{Request, request}
use Rattle.trials.specs.Fillers.{numbered}
use Rattle.trials.specs.Trials.{methods_tried}
use Rattle.trials.specs.Answers.{line_of, caller_fields}
use Rattle.grants.specs.Sides.{caller_at, Showable, PairsOf}
use Rattle.grants.specs.Scratch.{pairs_in, texts_of}
use Rattle.walks.specs.Walks.{hit_path}
use Rattle.walks.specs.declared.walking.Hit.{Hit}

-- the trial methods of two views
abbrev pub tried_of : View → View → List Text
tried_of old new = methods_tried old.methods new.methods

-- the filler by its number
abbrev pub filler_at : ℕ → Text
filler_at n = numbered (bytes "q") n

-- two views as they should be, and in the scratch w the trial methods by their numbers
pub record Telling (old new : View) (w : List ℕ) : Type 0 where
  pub olds : ProperView old
  pub news : ProperView new
  pub long : 2048 ≤ length w
  pub methods : PairsOf old.methods new.methods (pairs_in w) (length (tried_of old new))

-- no extension, or that of a line
abbrev pub EndingIn : List Text → Option ℕ → Type 0
EndingIn ts None = Unit {0}
EndingIn ts (Some i) = (i < length ts) × (e : Text) × (kind_of (get_or ts i []) ≡ extension e)

-- the numbers of a hit are those of a trial of two views
pub record FoundIn (old new : View) (f : Hit) : Type 0 where
  pub ending : EndingIn (texts_of old new) f.ending
  pub method : f.caught.method < length (tried_of old new)
  pub caller : Showable new.roles f.caught.caller

-- the request that they stand for, where the filler's number is n
abbrev pub found_request : View → View → ℕ → Hit → Request
found_request old new n f = request (hit_path (filler_at n) (texts_of old new) f.stem f.ending) (get_or (tried_of old new) f.caught.method []) (caller_at new.roles f.caught.caller)

-- what the answer has before the method, and from the method on
abbrev pub head_text : Text → Text
head_text path = bytes "verdict\twider\npath\t" ++ path ++ bytes "\nmethod\t"

abbrev pub tail_text : Text → Text → Text
tail_text method line = method ++ bytes "\n" ++ line

-- the same of a hit
abbrev pub found_head : View → View → ℕ → Hit → Text
found_head old new n f = head_text (found_request old new n f).path

abbrev pub found_tail : View → View → Hit → Text
found_tail old new f = tail_text (get_or (tried_of old new) f.caught.method []) (line_of (caller_fields (caller_at new.roles f.caught.caller)))
