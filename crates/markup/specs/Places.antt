-- What the code hands back: what was read with the place behind it, or a fault with its place. It is the list reader's answer, with places counted from the start of the text.
use Rattle.std.specs.Prelude.{◌≡◌, Bool, false, cond, ℕ, ◌+◌, ◌-◌, ◌≤◌, eqb, length, drop, Result, Ok, Err}
use Rattle.std.specs.Result.{result_map_both}
use Rattle.text.specs.Texts.{Text, bytes, part}
use Rattle.documents.specs.Chars.{next}
use Rattle.documents.specs.Parts.{Fault, malformed, deep, unwanted, bad_name, bad_pattern, role_twice, past_most, Got, got, fault, Reader, ◌>>=◌, ◌>>◌, return, Opened, word, name, remark, white, attributes, tag_end, start_tag}
use Rattle.markup.specs.declared.answers.Cause.{Cause}
use Rattle.markup.specs.declared.answers.Cause.TheVariants.{Malformed, Deep, Unwanted, BadName, BadPattern, RoleTwice, PastMost}
use Rattle.markup.specs.declared.answers.Fault.{Fault as Blame}
use Rattle.markup.specs.declared.answers.Letter.{Letter}
use Rattle.markup.specs.declared.answers.Ended.{Ended}
use Rattle.markup.specs.declared.answers.Start.{Start}

-- the number of a fault, 02's
abbrev pub number : Fault → ℕ
number malformed = 17
number deep = 18
number unwanted = 19
number bad_name = 6
number bad_pattern = 7
number role_twice = 9
number past_most = 8

-- a fault of `documents` as the code says it, and back
abbrev pub cause_of : Fault → Cause
cause_of malformed = Malformed
cause_of deep = Deep
cause_of unwanted = Unwanted
cause_of bad_name = BadName
cause_of bad_pattern = BadPattern
cause_of role_twice = RoleTwice
cause_of past_most = PastMost

abbrev pub fault_of : Cause → Fault
fault_of Malformed = malformed
fault_of Deep = deep
fault_of Unwanted = unwanted
fault_of BadName = bad_name
fault_of BadPattern = bad_pattern
fault_of RoleTwice = role_twice
fault_of PastMost = past_most

-- its number
abbrev pub number_of : Cause → ℕ
number_of c = number (fault_of c)

-- a fault at a place
abbrev pub blame : Cause → ℕ → Blame
blame c n = record { cause = c; at = n }

-- an answer, in a text of so many bytes: f puts together what was read and the place behind it
abbrev pub placed_as : {A B : Type 0} → (A → ℕ → B) → ℕ → Got A → Result B Blame
placed_as f l (got a r) = Ok (f a (l - length r))
placed_as f l (fault e n) = Err (blame (cause_of e) (l - n))

-- what m reads from the place i of s on
unfoldable pub read_as : {A B : Type 0} → (A → ℕ → B) → Reader A → Text → ℕ → Result B Blame
read_as f m s i = placed_as f (length s) (m (drop i s))

-- its place alone
abbrev pub read_at : {A : Type 0} → Reader A → Text → ℕ → Result ℕ Blame
read_at m s i = read_as (λ a n. n) m s i

-- the place behind the byte there, if it is of the kind p
abbrev pub one_at : (ℕ → Bool) → Text → ℕ → Result ℕ Blame
one_at p s i = cond (next p (drop i s)) (Ok (i + 1)) (Err (blame Malformed i))

-- the value that m reads there, or d beside a fault
unfoldable pub read_or : {A : Type 0} → A → Reader A → Text → ℕ → A
read_or {A} d m s i = elim (m (drop i s)) as (λ g. A) [ got a r ↦ a | fault e n ↦ d ]

-- a place in s, not before i
pub record Within (s : Text) (i n : ℕ) : Type 0 where
  pub low : i ≤ n
  pub high : n ≤ length s

-- the place behind what was read, or that of the fault
abbrev pub place_of : Result ℕ Blame → ℕ
place_of (Ok n) = n
place_of (Err e) = e.at

-- a fault put at the place p, unless the text of l bytes runs out
abbrev pub put_at : ℕ → ℕ → Blame → Blame
put_at p l e = cond (eqb e.at l) e (blame e.cause p)

abbrev pub blame_at : {A : Type 0} → ℕ → ℕ → Result A Blame → Result A Blame
blame_at p l (Ok a) = Ok a
blame_at p l (Err e) = Err (put_at p l e)

-- what a letter's, an end's and a first tag's answer are put together of, and the places that they hand back
abbrev pub letter : ℕ → ℕ → Letter
letter b n = record { byte = b; next = n }

abbrev pub letter_at : Result Letter Blame → Result ℕ Blame
letter_at r = result_map_both (λ l. l.next) (λ e. e) r

abbrev pub ended : Bool → ℕ → Ended
ended f n = record { full = f; next = n }

abbrev pub ended_at : Result Ended Blame → Result ℕ Blame
ended_at r = result_map_both (λ l. l.next) (λ e. e) r

abbrev pub start_at : Result Start Blame → Result ℕ Blame
start_at r = result_map_both (λ l. l.next) (λ e. e) r

-- ---- readers of smaller parts, each of one function
-- a comment, its faults where they are met
abbrev pub note_text : Reader (Unit {0})
note_text = word (bytes "<!--") >> remark false

-- a first tag in two parts: up to its name, and behind it
abbrev pub name_of_tag : Reader Text
name_of_tag = word (bytes "<") >> name

abbrev pub rest_of_tag : Reader Bool
rest_of_tag = attributes >> white >> tag_end

-- both, its faults where they are met
abbrev pub whole_tag : Reader Opened
whole_tag = name_of_tag >>= λ n. rest_of_tag >>= λ f. return (record { name = n; full = f })

-- the XML declaration behind its `<?xml`
abbrev pub declaration : Reader (Unit {0})
declaration = attributes >> white >> word (bytes "?>")

-- r tells the first tag at the place i of s: its name is the bytes behind the `<`, up to the place `end`
pub record Opening (s : Text) (i : ℕ) (r : Start) : Type 0 where
  pub low : i + 1 ≤ r.end
  pub high : r.end ≤ r.next
  pub read : start_tag (drop i s) ≡ got (record { name = part (i + 1) r.end s; full = r.full }) (drop r.next s)
