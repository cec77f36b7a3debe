-- A caller as a view sees it, for the proofs: which of its roles the caller has, as the digits of a number.
use Rattle.std.specs.Prelude.{ℕ, zero, suc, cond, ◌&&◌, List, [], ◌∷◌, length, get_or, leb, ltb, Option, Some, None}
use Rattle.text.specs.Texts.{Text, member, index_of}
use Rattle.text.specs.Lines.{Line, lines_of}
use Rattle.entries.specs.Sets.{set_of, with_member}
use Rattle.reading.specs.Views.{View}
use Rattle.decisions.specs.Requests.{is_ended_name, most_names}
use Rattle.callers.specs.declared.Who.{Who}
use Rattle.callers.specs.declared.Who.TheVariants.{Nobody, Roles}

-- digit i: the caller has role i of the view
unfoldable pub role_set : View → List Text → ℕ
unfolding set_of member
role_set v ns = set_of 32 (λ i. ltb i (length v.roles) && member (get_or v.roles i []) ns)

-- a name put in, where it is a role of the view
unfoldable pub with_role : View → ℕ → Text → ℕ
unfolding index_of
with_role v x n = cond (ltb (index_of n v.roles) (length v.roles)) (with_member x (index_of n v.roles)) x

-- the lines behind k names whose roles are x
unfoldable pub check_names : View → ℕ → ℕ → List Line → Option Who
unfolding with_role
check_names v k x [] = Some (Roles x)
check_names v k x (n ∷ ns) = cond (is_ended_name n) (cond (leb most_names k) None (check_names v (suc k) (with_role v x n.bytes) ns)) None

unfoldable pub check_caller : View → ℕ → Text → Option Who
unfolding check_names lines_of
check_caller v zero [] = Some Nobody
check_caller v zero (x ∷ xs) = None
check_caller v (suc zero) t = check_names v 0 0 (lines_of t)
check_caller v (suc (suc n)) t = None
