-- A listing as the program sees it while it compares: best matches as line numbers, callers and methods as numbers, what is granted as a set of
-- callers. For the proofs alone, which show that it is what the listing decides.
use Rattle.std.specs.Prelude.{ℕ, zero, suc, ◌+◌, ◌*◌, ◌%◌, ◌≤◌, ◌<◌, ◌≡◌, Bool, not, cond, ◌&&◌, List, [], ◌∷◌, length, get_or, drop, eqb, ltb, leb}
use Rattle.text.specs.Texts.{Text, index_of}
use Rattle.listings.specs.Listings.{Listing, patterns_of}
use Rattle.entries.specs.Sets.{set_of, digit}
use Rattle.reading.specs.Views.{View, texts, cover_at, access_at}
use Rattle.reading.specs.declared.held.Access.{Access}
use Rattle.reading.specs.declared.held.Access.TheVariants.{Open, Closed, ByRole}
use Rattle.decisions.specs.Requests.{Caller, nobody, logged_in}
use Rattle.matching.specs.Strengths.{leading}
use Rattle.deciding.specs.Joinings.{nothing_joined, join_with}
use Rattle.matching.specs.declared.Leading.{Leading}
use Rattle.deciding.specs.declared.joining.Joined.{Joined}
use Rattle.trials.specs.Trials.{one, methods_tried}

-- ---- line numbers: 0 where a path has no best match, else the number of its line, from 1
abbrev pub line_number : Leading → ℕ
line_number x = cond (eqb x.most 0) 0 (x.at + 1)

-- the best match is a prefix, or exact
abbrev pub is_firm : Leading → Bool
is_firm x = leb 3 x.most

unfoldable pub best_in : Listing → Text → ℕ
unfolding leading patterns_of
best_in l path = line_number (leading (patterns_of l) path)

-- ---- callers: 0 is not logged in, 1 is logged in without a role, i + 2 has role i of new, whose names are ns
abbrev pub caller_at : List Text → ℕ → Caller
caller_at ns zero = nobody
caller_at ns (suc zero) = logged_in []
caller_at ns (suc (suc i)) = one (get_or ns i [])

-- c is the number of one who may be shown: not logged in, or with a role; never logged in without one
pub record Showable (ns : List Text) (c : ℕ) : Type 0 where
  pub within : c ≤ length ns + 1
  pub other : c ≡ 1 → ⊥

-- all of them
abbrev pub everyone : ℕ
everyone = 18446744073709551615

-- a set of the roles os, in the numbers of the names ns
unfoldable pub renumbered : List Text → List Text → ℕ → ℕ
unfolding set_of index_of
renumbered ns os x =
    set_of 32 (λ i. ltb i (length ns) && (ltb (index_of (get_or ns i []) os) (length os) && eqb (digit (index_of (get_or ns i []) os) x) 1))

-- whom that which is joined grants
unfoldable pub grantees_of : Joined → ℕ
grantees_of j = cond (not j.any) everyone (cond j.closed 0 (cond j.free everyone (4 * (j.roles % 4294967296))))

-- with the roles in the numbers of ns
abbrev pub seen_joined : List Text → View → Joined → Joined
seen_joined ns v j = record { any = j.any; closed = j.closed; free = j.free; roles = renumbered ns v.roles j.roles }

-- ---- the table of a side, which is made of a view: for each `pattern` line k its cover, its access, its roles, and how many lines stand between it and the next with its text
abbrev pub access_number : Access → ℕ
access_number Open = 0
access_number Closed = 1
access_number (ByRole x) = 2

abbrev pub access_roles : Access → ℕ
access_roles Open = 0
access_roles Closed = 0
access_roles (ByRole x) = x

-- the lines between line k and the next with its text, or all that follow
unfoldable pub gap_at : View → ℕ → ℕ
unfolding index_of texts
gap_at v k = index_of (get_or (texts v) k []) (drop (k + 1) (texts v))

pub record LineIn (ns : List Text) (v : View) (side : List ℕ) (k : ℕ) : Type 0 where
  pub cover : get_or side k 0 ≡ cover_at v k
  pub access : get_or side (128 + k) 0 ≡ access_number (access_at v k)
  pub roles : get_or side (256 + k) 0 ≡ renumbered ns v.roles (access_roles (access_at v k))
  pub gap : get_or side (384 + k) 0 ≡ gap_at v k

pub record SideOf (ns : List Text) (v : View) (side : List ℕ) : Type 0 where
  pub size : length side ≡ 512
  pub lines : (k : ℕ) → k < length (texts v) → LineIn ns v side k

-- what the table says of line k
abbrev pub access_from : ℕ → ℕ → Access
access_from zero x = Open
access_from (suc zero) x = Closed
access_from (suc (suc n)) x = ByRole x

abbrev pub access_in : List ℕ → ℕ → Access
access_in side k = access_from (get_or side (128 + k) 0) (get_or side (256 + k) 0)

-- the constraints joined along the lines with one text, from line k on; n lines in all
unfoldable pub joined_along : ℕ → List ℕ → ℕ → ℕ → ℕ → Joined → Joined
joined_along zero side n m k j = j
joined_along (suc f) side n m k j =
    cond (ltb k n)
    (joined_along f side n m (k + 1 + get_or side (384 + k) 0) (cond (eqb (digit m (get_or side k 0)) 1) (join_with j (access_in side k)) j))
    j

-- whom the table grants at a best line, for method m
unfoldable pub grants_in : List ℕ → ℕ → ℕ → ℕ → ℕ
unfolding grantees_of joined_along
grants_in side n zero m = everyone
grants_in side n (suc k) m = grantees_of (joined_along n side n m k nothing_joined)

-- the numbers f 0, f 1, .., k of them
unfoldable pub listed : ℕ → (ℕ → ℕ) → List ℕ
listed zero f = []
listed (suc k) f = f 0 ∷ listed k (λ i. f (suc i))

-- for each method
unfoldable pub roster_in : List ℕ → ℕ → ℕ → List ℕ
unfolding listed grants_in
roster_in side n a = listed 32 (grants_in side n a)

-- ---- the trial methods, by their numbers among old's methods os, and 64 numbers on among new's, ns
pub record PairsOf (os ns : List Text) (pairs : List ℕ) (count : ℕ) : Type 0 where
  pub size : length pairs ≡ 128
  pub all : count ≡ length (methods_tried os ns)
  pub few : count ≤ 63
  pub olds : (i : ℕ) → i < count → get_or pairs i 0 ≡ index_of (get_or (methods_tried os ns) i []) os
  pub news : (i : ℕ) → i < count → get_or pairs (64 + i) 0 ≡ index_of (get_or (methods_tried os ns) i []) ns

-- the methods ms, as far as they are paired
pub record PairedUp (os ns ms : List Text) (pairs : List ℕ) : Type 0 where
  pub size : length pairs ≡ 128
  pub few : length ms ≤ 62
  pub olds : (i : ℕ) → i < length ms → get_or pairs i 0 ≡ index_of (get_or ms i []) os
  pub news : (i : ℕ) → i < length ms → get_or pairs (64 + i) 0 ≡ index_of (get_or ms i []) ns

-- the numbers are small
abbrev pub PairsFit : List ℕ → ℕ → Type 0
PairsFit pairs count = (i : ℕ) → i < count → (get_or pairs i 0 < 32) × (get_or pairs (64 + i) 0 < 32)

-- ---- all that is made ready of two views
pub record Ready (old new : View) (so sn pairs : List ℕ) (count : ℕ) : Type 0 where
  pub old_side_lem : SideOf new.roles old so
  pub new_side_lem : SideOf new.roles new sn
  pub methods : PairsOf old.methods new.methods pairs count
