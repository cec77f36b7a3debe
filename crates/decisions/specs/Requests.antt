-- "A request is a path (1 to 1,024 text bytes, first `/`), a method and a caller." The path is the one received: "the 1,024 limit counts the bytes before dropping".
use Rattle.std.specs.Prelude.{ℕ, zero, suc, Bool, true, cond, ◌&&◌, length, leb}
use mathlib.Core.List.{List, [], ◌∷◌, map, Memᴰ}
use Rattle.std.proofs.Math.Option.{Option, none, some}
use Rattle.text.specs.Texts.{Text, bytes, all, starts_with}
use Rattle.text.specs.Bytes.{is_text}
use Rattle.names.specs.Names.{made_of, is_role_name, is_method_name}
use Rattle.text.specs.Lines.{Line, lines_of}
use Rattle.decisions.specs.Paths.{dropped}

-- ---- the path and the method
unfoldable pub is_path : Text → Bool
unfolding all starts_with
is_path p = made_of is_text 1 1024 p && starts_with (bytes "/") p

abbrev pub is_method : Text → Bool
is_method m = is_method_name m

-- ---- the caller: "not logged in (0), or logged in (1) with 0 to 32 role names, each ended by byte 10 in one lent text"
pub data Caller : Type 0 where
  nobody : Caller
  logged_in : List Text → Caller

-- a role name that its byte 10 ends; `*` is none
abbrev pub is_ended_name : Line → Bool
is_ended_name l = l.ended && is_role_name l.bytes

unfoldable pub all_ended_names : List Line → Bool
all_ended_names [] = true
all_ended_names (l ∷ ls) = is_ended_name l && all_ended_names ls

abbrev pub most_names : ℕ
most_names = 32

-- the names of the lines
abbrev pub names_in : List Line → List Text
names_in ls = map (λ (l : Line). l.bytes) ls

-- the names of a logged-in caller; "a repeated name counts towards the 32 each time"
abbrev pub logged_in_with : List Line → Option Caller
logged_in_with ls = cond (all_ended_names ls && leb (length ls) most_names) (some (logged_in (names_in ls))) none

-- the caller of a login number and a text of names; none where they are bad
unfoldable pub caller_of : ℕ → Text → Option Caller
unfolding all_ended_names lines_of
caller_of zero [] = some nobody
caller_of zero (x ∷ xs) = none
caller_of (suc zero) t = logged_in_with (lines_of t)
caller_of (suc (suc n)) t = none

-- d has every role that c has, and may have further ones; one who is not logged in has none
abbrev pub Extends : Caller → Caller → Type 0
Extends nobody d = Unit {0}
Extends (logged_in ns) nobody = ⊥
Extends (logged_in ns) (logged_in ms) = (n : Text) → Memᴰ n ns → Memᴰ n ms

pub record Request : Type 0 where
  pub path : Text
  pub method : Text
  pub caller : Caller

-- a request is made here alone
abbrev pub request : Text → Text → Caller → Request
request path method caller = record { path = path; method = method; caller = caller }

-- what of it the patterns are matched with: its path without the parameters, whatever the path is as it was received
abbrev pub matched : Request → Text
matched r = dropped r.path
