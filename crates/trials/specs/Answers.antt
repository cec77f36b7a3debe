-- "The answer goes to a lent buffer as text": one line, or four.
use Rattle.std.specs.Prelude.{List, [], ◌∷◌, ◌++◌}
use Rattle.std.proofs.Math.Option.{Option, none, some}
use Rattle.text.specs.Texts.{Text, bytes, tab, newline}
use Rattle.decisions.specs.Requests.{Caller, nobody, logged_in, Request}

-- fields parted by one tab, and the byte 10 that ends a line
unfoldable pub line_of : List Text → Text
line_of [] = newline ∷ []
line_of (f ∷ []) = f ++ newline ∷ []
line_of (f ∷ g ∷ gs) = f ++ tab ∷ line_of (g ∷ gs)

-- "`caller⇥none` or `caller⇥role⇥NAME`": a trial's caller has one role at most
abbrev pub caller_fields : Caller → List Text
caller_fields nobody = bytes "caller" ∷ bytes "none" ∷ []
caller_fields (logged_in ns) = bytes "caller" ∷ bytes "role" ∷ ns

-- "No wider: one line `verdict⇥no wider`. Wider: four lines, verdict, path, method, caller"
unfoldable pub answer_of : Option Request → Text
unfolding line_of
answer_of none = line_of (bytes "verdict" ∷ bytes "no wider" ∷ [])
answer_of (some r) =
    line_of (bytes "verdict" ∷ bytes "wider" ∷ [])
    ++ line_of (bytes "path" ∷ r.path ∷ [])
    ++ line_of (bytes "method" ∷ r.method ∷ [])
    ++ line_of (caller_fields r.caller)
