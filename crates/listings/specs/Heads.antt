-- How the code takes a line's head, and which line is the first of its collection: for the proofs alone.
use Rattle.std.specs.Prelude.{ℕ, Bool, true, false, cond, Option, Some, None}
use Rattle.text.specs.Texts.{Text, bytes, starts_with}
use Rattle.listings.specs.declared.records.Kind.{Kind}
use Rattle.listings.specs.declared.records.Kind.TheVariants.{Role, Constraint, Allow, Collection, Pattern, Method, Omit, End}
use Rattle.listings.specs.declared.records.Headed.{Headed}
use Rattle.listings.specs.declared.records.Stage.{Stage}
use Rattle.listings.specs.declared.records.Stage.TheVariants.{AfterFirst, AfterRole, AfterOpen, AfterAuth, AfterAllow, AfterCollection, AfterPattern, AfterMethod, AfterOmit, AfterEnd}

-- ---- how a line begins: with a record's name, and a tab behind it or the line's end
abbrev pub headed : Kind → ℕ → Option Headed
headed k n = Some (record { kind = k; size = n })

unfoldable pub head_of_part : Text → Option Headed
unfolding starts_with
head_of_part t =
    cond (starts_with (bytes "role\t") t) (headed Role 5)
    (cond (starts_with (bytes "constraint\t") t) (headed Constraint 11)
    (cond (starts_with (bytes "collection\n") t) (headed Collection 10)
    (cond (starts_with (bytes "end\n") t) (headed End 3)
    None)))

unfoldable pub head_of : Text → Option Headed
unfolding starts_with head_of_part
head_of t =
    cond (starts_with (bytes "method\t") t) (headed Method 7)
    (cond (starts_with (bytes "omit\t") t) (headed Omit 5)
    (cond (starts_with (bytes "pattern\t") t) (headed Pattern 8)
    (cond (starts_with (bytes "allow\t") t) (headed Allow 6)
    (head_of_part t))))

-- a `method` line at that stage is the first of its collection, and takes all other methods out
abbrev pub is_first_method : Stage → Bool
is_first_method AfterFirst = false
is_first_method AfterRole = false
is_first_method AfterOpen = false
is_first_method AfterAuth = false
is_first_method AfterAllow = false
is_first_method AfterCollection = false
is_first_method AfterPattern = true
is_first_method AfterMethod = false
is_first_method AfterOmit = false
is_first_method AfterEnd = false
