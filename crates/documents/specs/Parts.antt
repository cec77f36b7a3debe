-- Readers of the parts of an XML text, as programs on lists: each answers what was read and the text left, or a fault and how many bytes are left where it stands.
-- `proofs/` shows that what they accept is what Grammar spells.
use Rattle.std.specs.Prelude.{Bool, true, false, not, cond, ◌&&◌, ◌||◌, [], ◌∷◌, ◌++◌, ℕ, zero, suc, eqb, length}
use Rattle.text.specs.Texts.{Text, bytes, all, starts_with}
use Rattle.documents.specs.Chars.{is_char, is_plain, is_quote, is_white, is_name_start, is_name_byte, next, front, after}

-- the faults of a file: 17, 18, 19, and of what it says 6, 7, 9, 8
pub data Fault : Type 0 where
  malformed deep unwanted bad_name bad_pattern role_twice past_most : Fault

-- what was read and the text that is left; or a fault, and how many bytes are left there
pub data Got (A : Type 0) : Type 0 where
  got : A → Text → Got A
  fault : Fault → ℕ → Got A

abbrev pub Reader : Type 0 → Type 0
Reader A = Text → Got A

-- ---- readers are put together
unfoldable pub ◌>>=◌ : {A B : Type 0} → Reader A → (A → Reader B) → Reader B
◌>>=◌ {B = B} m k s = elim (m s) as (λ g. Got B) [ got a r ↦ k a r | fault e n ↦ fault e n ]

abbrev pub ◌>>◌ : {A B : Type 0} → Reader A → Reader B → Reader B
◌>>◌ m k = m >>= λ a. k

abbrev pub return : {A : Type 0} → A → Reader A
return a s = got a s

abbrev pub wrong : {A : Type 0} → Reader A
wrong s = fault malformed (length s)

-- a fault where so many bytes are left
abbrev pub fault_at : {A : Type 0} → Fault → ℕ → Reader A
fault_at e n s = fault e n

unfoldable pub whether : {A : Type 0} → Bool → Reader A → Reader A → Reader A
whether {A} t m k s = elim t as (λ g. Got A) [ true ↦ m s | false ↦ k s ]

infixr 20 ◌>>=◌
infixr 20 ◌>>◌
-- a fault of m is put where n bytes are left; but where the text runs out, it stays at the end
unfoldable pub blamed : {A : Type 0} → ℕ → Reader A → Reader A
blamed {A} n m s = elim (m s) as (λ g. Got A) [ got a r ↦ got a r | fault e zero ↦ fault e zero | fault e (suc k) ↦ fault e n ]

-- pieces by read while more says so, put together by add, in at most so many turns
unfoldable pub turns : {A B : Type 0} → (Text → Bool) → Reader A → B → (A → B → B) → ℕ → Reader B
turns more read start add zero s = got start s
turns more read start add (suc f) s =
    whether (more s) (read >>= λ a. turns more read start add f >>= λ b. return (add a b)) (return start) s

-- the same: there are no more turns than bytes
unfoldable pub many : {A B : Type 0} → (Text → Bool) → Reader A → B → (A → B → B) → Reader B
many more read start add s = turns more read start add (length s) s

-- a value handed on from step to step while more says so
unfoldable pub rounds : {A : Type 0} → (Text → Bool) → (A → Reader A) → ℕ → A → Reader A
rounds more step zero a s = got a s
rounds more step (suc f) a s = whether (more s) (step a >>= rounds more step f) (return a) s

unfoldable pub walk : {A : Type 0} → (Text → Bool) → (A → Reader A) → A → Reader A
walk more step a s = rounds more step (length s) a s

-- ---- words
-- these very bytes
unfoldable pub word : Text → Reader (Unit {0})
word [] s = got tt s
word (b ∷ t) [] = wrong []
word (b ∷ t) (x ∷ s) = whether (eqb b x) (λ r. word t s) wrong (x ∷ s)

-- white space, none too
unfoldable pub white : Reader (Unit {0})
white s = got tt (after is_white s)

-- a name: its bytes
unfoldable pub name : Reader Text
name s = whether (next is_name_start s) (λ r. got (front is_name_byte r) (after is_name_byte r)) wrong s

-- a quote: which one
unfoldable pub quote_mark : Reader ℕ
quote_mark [] = wrong []
quote_mark (b ∷ s) = whether (is_quote b) (λ r. got b s) wrong (b ∷ s)

-- m where the text starts with t, else k
abbrev pub choose : {A : Type 0} → Text → Reader A → Reader A → Reader A
choose t m k s = whether (starts_with t s) m k s

-- an entity: the byte it stands for
unfoldable pub quote_entity : Reader ℕ
quote_entity =
    choose (bytes "&quot;") (word (bytes "&quot;") >> return 34)
    (choose (bytes "&apos;") (word (bytes "&apos;") >> return 39)
    wrong)

unfoldable pub entity : Reader ℕ
entity =
    choose (bytes "&lt;") (word (bytes "&lt;") >> return 60)
    (choose (bytes "&gt;") (word (bytes "&gt;") >> return 62)
    (choose (bytes "&amp;") (word (bytes "&amp;") >> return 38)
    quote_entity))

-- a byte of text: itself, or an entity
unfoldable pub letter_of : Reader ℕ
letter_of [] = wrong []
letter_of (b ∷ s) = whether (is_plain b) (λ r. got b s) entity (b ∷ s)

-- what is left of a comment, where `-` was read last or not
unfoldable pub remark : Bool → Reader (Unit {0})
remark dash [] = wrong []
remark dash (b ∷ s) =
    whether (eqb b 45)
    (whether dash (λ r. word (bytes ">") s) (λ r. remark true s))
    (whether (is_char b) (λ r. remark false s) wrong) (b ∷ s)

-- a comment; a fault in it is put at its `<`
unfoldable pub comment : Reader (Unit {0})
comment s = blamed (length s) (word (bytes "<!--") >> remark false) s

-- ---- tags
-- what stands in the quotes q
unfoldable pub value : ℕ → Reader (Unit {0})
value q = many (next (λ b. not (eqb q b))) letter_of tt (λ a b. tt)

-- a value in quotes
unfoldable pub quoted : Reader (Unit {0})
quoted = do
  q ← quote_mark
  value q
  word (q ∷ [])

unfoldable pub attribute : Reader (Unit {0})
attribute = do
  white
  name
  white
  word (bytes "=")
  white
  quoted

-- one more follows: white space and the start of a name
abbrev pub is_attribute : Text → Bool
is_attribute s = next is_white s && next is_name_start (after is_white s)

unfoldable pub attributes : Reader (Unit {0})
attributes = many is_attribute attribute tt (λ a b. tt)

-- a tag up to its end: the name
unfoldable pub tag : Reader Text
tag = do
  word (bytes "<")
  n ← name
  attributes
  white
  return n

-- the end of a tag: whether content follows
unfoldable pub tag_end : Reader Bool
tag_end = choose (bytes ">") (word (bytes ">") >> return true) (word (bytes "/>") >> return false)

-- a first tag: its name, and whether content follows
pub record Opened : Type 0 where
  pub name : Text
  pub full : Bool

-- a fault in it is put at its `<`
unfoldable pub start_tag : Reader Opened
start_tag s = blamed (length s) (tag >>= λ n. tag_end >>= λ f. return (record { name = n; full = f })) s

-- the second tag of an element; a fault in it is put at its `<`
unfoldable pub end_tag : Text → Reader (Unit {0})
end_tag n = do
  word (bytes "</")
  word n
  white
  word (bytes ">")

unfoldable pub second_tag : Text → Reader (Unit {0})
second_tag n s = blamed (length s) (end_tag n) s

-- ---- texts
-- the content is over: at the end of the text, and before `</`
unfoldable pub ends : Text → Bool
ends [] = true
ends (b ∷ s) = starts_with (bytes "</") (b ∷ s)

-- one more letter or comment follows
unfoldable pub goes_on : Text → Bool
goes_on [] = false
goes_on (b ∷ s) = not (eqb 60 b) || starts_with (bytes "<!--") (b ∷ s)

-- a letter, put behind those so far, or a comment, which adds nothing; a fault of a letter is put where n bytes are left
unfoldable pub piece : ℕ → Text → Reader Text
piece n t s = whether (next (eqb 60) s) (comment >> return t) (blamed n letter_of >>= λ b. return (t ++ b ∷ [])) s

-- the letters up to the next tag
unfoldable pub letters : ℕ → Reader Text
letters n = walk goes_on (piece n) []

-- white space at the end dropped
unfoldable pub trim_end : Text → Text
unfolding all
trim_end [] = []
trim_end (b ∷ s) = cond (all is_white (b ∷ s)) [] (b ∷ trim_end s)

-- white space at both ends dropped
unfoldable pub trimmed : Text → Text
trimmed t = trim_end (after is_white t)

-- ---- round the element
-- the byte order mark, if there is one
unfoldable pub order_mark : Reader (Unit {0})
order_mark = choose (239 ∷ 187 ∷ 191 ∷ []) (word (239 ∷ 187 ∷ 191 ∷ [])) (return tt)

-- the XML declaration, if there is one; a fault in it is put at its `<`
unfoldable pub prolog : Reader (Unit {0})
prolog s = choose (bytes "<?xml") (blamed (length s) (word (bytes "<?xml") >> attributes >> white >> word (bytes "?>"))) (return tt) s

-- white space and comments
abbrev pub is_aside : Text → Bool
is_aside s = next is_white s || starts_with (bytes "<!--") s

unfoldable pub aside : Reader (Unit {0})
aside [] = wrong []
aside (b ∷ s) = whether (is_white b) (λ r. got tt s) comment (b ∷ s)

unfoldable pub asides : Reader (Unit {0})
asides = many is_aside aside tt (λ a b. tt)

-- the end of the text
unfoldable pub ending : Reader (Unit {0})
ending [] = got tt []
ending (b ∷ s) = wrong (b ∷ s)
