-- "Combine them": what a constraint says is who may, and what several say is joined two by two.
use Rattle.std.specs.Prelude.{Bool, true, false, cond, ◌||◌, List, [], ◌∷◌, ◌++◌}
use Rattle.text.specs.Texts.{Text, member}
use Rattle.names.specs.Names.{is_star}
use Rattle.listings.specs.Listings.{Constrained, closes}

-- ---- who may
pub data Access : Type 0 where
  -- no one
  closed : Access
  -- everyone
  free : Access
  -- who has one of the role names that pass: a set of names is its test
  roles : (Text → Bool) → Access

-- ---- joining: closed before open, open before roles, and roles are united
abbrev pub join : Access → Access → Access
join closed b = closed
join free closed = closed
join free free = free
join free (roles g) = free
join (roles f) closed = closed
join (roles f) free = free
join (roles f) (roles g) = roles (λ n. f n || g n)

-- what changes nothing: no role. It is not what holds where nothing is taken.
abbrev pub neutral : Access
neutral = roles (λ n. false)

-- several joined, from the last to the first
unfoldable pub together : List Access → Access
together [] = neutral
together (a ∷ xs) = join a (together xs)

-- ---- the same as 01 has it: "if any is .., closed. Else if any is `open`, open. Else the union of the allowed roles"
unfoldable pub any_of : {A : Type 0} → (A → Bool) → List A → Bool
any_of f [] = false
any_of f (x ∷ xs) = f x || any_of f xs

abbrev pub is_closed : Access → Bool
is_closed closed = true
is_closed free = false
is_closed (roles f) = false

abbrev pub is_free : Access → Bool
is_free closed = false
is_free free = true
is_free (roles f) = false

-- n is one of its roles
abbrev pub has_role : Access → Text → Bool
has_role closed n = false
has_role free n = false
has_role (roles f) n = f n

unfoldable pub ranked : List Access → Access
unfolding any_of
ranked xs =
    cond (any_of is_closed xs) closed
    (cond (any_of is_free xs) free
    (roles (λ n. any_of (λ a. has_role a n) xs)))

-- ---- what a constraint says
-- the roles that a constraint allows, "`*` adding all declared ones"
unfoldable pub roles_of : List Text → List Text → List Text
unfolding is_star
roles_of declared [] = []
roles_of declared (n ∷ ns) = cond (is_star n) declared (n ∷ []) ++ roles_of declared ns

-- `open`; or "`auth` without `allow` closes to everyone"; or the allowed roles, by the declared ones of its listing
unfoldable pub access_of : List Text → Constrained → Access
unfolding closes member roles_of
access_of declared k =
    cond k.is_open free
    (cond (closes k) closed
    (roles (λ n. member n (roles_of declared k.allowed))))
