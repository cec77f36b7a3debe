-- What the code computes on the way to an answer, in numbers and sets: for the proofs alone, which show that it is Decisions' answer.
use Rattle.std.specs.Prelude.{ℕ, zero, suc, Bool, true, false, not, cond, ◌&&◌, [], get_or, eqb}
use Rattle.std.specs.Int.Bits.{bit_and, bit_or}
use Rattle.text.specs.Texts.{Text, same}
use Rattle.entries.specs.Sets.{digit}
use Rattle.reading.specs.Views.{View, texts, cover_at, access_at}
use Rattle.reading.specs.declared.held.Access.{Access}
use Rattle.reading.specs.declared.held.Access.TheVariants.{Open, Closed, ByRole}
use Rattle.decisions.specs.declared.answers.Answer.{Answer}
use Rattle.decisions.specs.declared.answers.Answer.TheVariants as A
use Rattle.callers.specs.declared.Who.{Who}
use Rattle.callers.specs.declared.Who.TheVariants.{Nobody, Roles}
use Rattle.deciding.specs.declared.joining.Joined.{Joined}

abbrev pub nothing_joined : Joined
nothing_joined = record { any = false; closed = false; free = false; roles = 0 }

-- with one constraint more
abbrev pub join_with : Joined → Access → Joined
join_with j Open = record { any = true; closed = j.closed; free = true; roles = j.roles }
join_with j Closed = record { any = true; closed = true; free = j.free; roles = j.roles }
join_with j (ByRole x) = record { any = true; closed = j.closed; free = j.free; roles = bit_or j.roles x }

-- pattern line k has that text and covers method m
unfoldable pub is_line_for : View → Text → ℕ → ℕ → Bool
unfolding same texts cover_at
is_line_for v t m k = same (get_or (texts v) k []) t && eqb (digit m (cover_at v k)) 1

-- the constraints of the first k pattern lines that are taken
unfoldable pub joined_up_to : View → Text → ℕ → ℕ → Joined
unfolding is_line_for access_at
joined_up_to v t m zero = nothing_joined
joined_up_to v t m (suc k) = cond (is_line_for v t m k) (join_with (joined_up_to v t m k) (access_at v k)) (joined_up_to v t m k)

-- by the joined roles
abbrev pub role_answer : ℕ → Who → Answer
role_answer roles Nobody = A.LoginWanted
role_answer roles (Roles x) = cond (eqb (bit_and x roles) 0) A.RoleLacking A.ByRole

unfoldable pub joined_answer : Joined → Who → Answer
joined_answer j who = cond (not j.any) A.Open (cond j.closed A.Closed (cond j.free A.Open (role_answer j.roles who)))
