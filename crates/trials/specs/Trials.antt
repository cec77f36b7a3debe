-- The trials: the requests that stand for all requests.
use Rattle.std.specs.Prelude.{cond}
use mathlib.Core.List.{List, [], ◌∷◌, ◌++◌, map, flat_map}
use Rattle.text.specs.Texts.{Text, slash, dot, member}
use Rattle.names.specs.Patterns.{PatternKind, exact, prefix, extension, default, unpermitted, kind_of}
use Rattle.listings.specs.Listings.{Listing, patterns_of}
use Rattle.decisions.specs.Requests.{Caller, nobody, logged_in, Request, request}
use Rattle.trials.specs.Fillers.{filler_method, filler_of}

-- ---- "Trial paths, taking the `pattern` lines of the new listing and then the old in order"
-- p`/`filler
abbrev pub below : Text → Text → Text
below p filler = p ++ slash ∷ filler

-- p`/`filler`.`e
abbrev pub dotted : Text → Text → Text → Text
dotted p filler e = p ++ slash ∷ (filler ++ dot ∷ e)

-- the E of an extension pattern
abbrev pub extension_in : PatternKind → List Text
extension_in (exact q) = []
extension_in (prefix p) = []
extension_in (extension e) = e ∷ []
extension_in default = []
extension_in unpermitted = []

-- "each extension pattern", in order
unfoldable pub extensions : List Text → List Text
unfolding kind_of
extensions [] = []
extensions (t ∷ ts) = extension_in (kind_of t) ++ extensions ts

-- "exact, the text itself (empty: `/`); prefix, P`/`filler, then P`/`filler`.`E for each extension pattern ..;
-- extension, `/`filler`.`E; default, `/`filler": es are the extensions, and the empty pattern is of the kind exact `/`
abbrev pub paths_of_kind : Text → List Text → PatternKind → List Text
paths_of_kind filler es (exact q) = q ∷ []
paths_of_kind filler es (prefix p) = below p filler ∷ map (dotted p filler) es
paths_of_kind filler es (extension e) = dotted [] filler e ∷ []
paths_of_kind filler es default = below [] filler ∷ []
paths_of_kind filler es unpermitted = []

-- for one pattern text after the other; "Last of all, `/`filler."
unfoldable pub paths_from : Text → List Text → List Text → List Text
unfolding kind_of
paths_from filler es [] = below [] filler ∷ []
paths_from filler es (t ∷ ts) = paths_of_kind filler es (kind_of t) ++ paths_from filler es ts

-- ts are the pattern texts of both listings
unfoldable pub paths_for : Text → List Text → List Text
unfolding paths_from extensions
paths_for filler ts = paths_from filler (extensions ts) ts

unfoldable pub trial_paths : Listing → Listing → List Text
unfolding paths_for filler_of patterns_of
trial_paths old new = paths_for (filler_of old new) (patterns_of new ++ patterns_of old)

-- ---- "Trial methods: those of new by first appearance, then further ones of old, then the filler method."
-- those of the second list that are none of the first
unfoldable pub further : List Text → List Text → List Text
unfolding member
further us [] = []
further us (t ∷ ts) = cond (member t us) (further us ts) (t ∷ further us ts)

-- those of new, then further ones of old; a listing has each of its methods and roles once, by first appearance
unfoldable pub joined : List Text → List Text → List Text
unfolding further
joined first more = first ++ further first more

-- where old has the methods os, and new the methods ns
unfoldable pub methods_tried : List Text → List Text → List Text
unfolding joined filler_method
methods_tried os ns = joined ns os ++ filler_method (ns ++ os) ∷ []

unfoldable pub trial_methods : Listing → Listing → List Text
unfolding methods_tried
trial_methods old new = methods_tried old.methods new.methods

-- ---- "Trial callers: not logged in; then logged in with one role, over names by first appearance in new .., then further ones of old."
abbrev pub one : Text → Caller
one n = logged_in (n ∷ [])

unfoldable pub trial_names : Listing → Listing → List Text
unfolding joined
trial_names old new = joined new.roles old.roles

abbrev pub callers_with : List Text → List Caller
callers_with ns = nobody ∷ map one ns

unfoldable pub trial_callers : Listing → Listing → List Caller
unfolding trial_names
trial_callers old new = callers_with (trial_names old new)

-- ---- "Paths vary slowest, callers fastest."
abbrev pub at_method : List Caller → Text → Text → List Request
at_method cs p m = map (request p m) cs

abbrev pub at_path : List Caller → List Text → Text → List Request
at_path cs ms p = flat_map (at_method cs p) ms

unfoldable pub trials : Listing → Listing → List Request
unfolding flat_map trial_paths trial_methods trial_callers
trials old new = flat_map (at_path (trial_callers old new) (trial_methods old new)) (trial_paths old new)
