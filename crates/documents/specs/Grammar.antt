-- What an XML text means: the tree, and which bytes spell it. This page is the statement, and is read from top to bottom; the kinds of bytes
-- are in Chars. `s ++ t` is s and then t, `b ∷ s` the byte b and then s, `bytes "<"` the bytes of the quoted text. Each line under a `data` is one
-- way to spell: what stands before its last arrow is asked for, and what stands behind it is then spelt so.
use Rattle.std.specs.Prelude.{◌≡◌, Bool, true, false, [], ◌∷◌, ◌++◌, ℕ, suc, max, eqb}
use Rattle.text.specs.Texts.{Text, bytes}
use Rattle.documents.specs.Chars.{is_char, is_plain, is_quote, is_white, is_space, is_gap, is_tag_name, next}

-- ---- the tree
mutual
  -- a byte of text, a comment, or an element with its name and what it holds
  pub data Node : Type 0 where
    letter : ℕ → Node
    comment : Node
    element : Text → Content → Node

  -- nodes, one after the other
  pub data Content : Type 0 where
    none : Content
    ◌then◌ : Node → Content → Content

infixr 40 ◌then◌
-- whether a node is an element
abbrev pub is_element : Node → Bool
is_element (letter b) = false
is_element comment = false
is_element (element n k) = true

-- how deep the elements stand in one another
unfoldable mutual
  pub depth_node : Node → ℕ
  depth_node (letter b) = 0
  depth_node comment = 0
  depth_node (element n k) = suc (depth k)

  pub depth : Content → ℕ
  depth none = 0
  depth (x then c) = max (depth_node x) (depth c)

-- the bytes of text that stand in a content directly: comments and elements add none
unfoldable pub letters_of : Content → Text
letters_of none = []
letters_of (letter b then c) = b ∷ letters_of c
letters_of (comment then c) = letters_of c
letters_of (element n k then c) = letters_of c

-- ---- its spelling
-- any number of texts of the kind P, one after the other
pub data Many (P : Text → Type 0) : Text → Type 0 where
  no_more : Many P []
  more : {s t : Text} → P s → Many P t → Many P (s ++ t)

-- a byte of text: itself, or one of the five entities
pub data Letter : ℕ → Text → Type 0 where
  itself : {b : ℕ} → is_plain b ≡ true → Letter b (b ∷ [])
  less : Letter 60 (bytes "&lt;")
  greater : Letter 62 (bytes "&gt;")
  ampersand : Letter 38 (bytes "&amp;")
  quote : Letter 34 (bytes "&quot;")
  apostrophe : Letter 39 (bytes "&apos;")

-- a byte of a value in the quotes q: any but that quote itself
pub data InQuotes (q : ℕ) : Text → Type 0 where
  inside : {b : ℕ} {s : Text} → Letter b s → next (eqb q) s ≡ false → InQuotes q s

-- white space, a name, `=` with white space round it or not, and a value in quotes
pub data Attribute : Text → Type 0 where
  attributed : (w n u v t : Text) (q : ℕ) → is_gap w ≡ true → is_tag_name n ≡ true → is_space u ≡ true → is_space v ≡ true → is_quote q ≡ true → Many (InQuotes q) t
      → Attribute (w ++ n ++ u ++ bytes "=" ++ v ++ (q ∷ []) ++ t ++ (q ∷ []))

-- `<`, the name n, attributes and white space: all of a tag but its end
pub data Tag (n : Text) : Text → Type 0 where
  tagged : (a w : Text) → is_tag_name n ≡ true → Many Attribute a → is_space w ≡ true → Tag n (bytes "<" ++ n ++ a ++ w)

-- what stands in a comment: no two hyphens (45) side by side, and none at the end
pub data Remark : Text → Type 0 where
  ended : Remark []
  other : {b : ℕ} {t : Text} → is_char b ≡ true → eqb b 45 ≡ false → Remark t → Remark (b ∷ t)
  hyphen : {b : ℕ} {t : Text} → is_char b ≡ true → eqb b 45 ≡ false → Remark t → Remark (45 ∷ b ∷ t)

mutual
  -- s spells the node x: a letter, a comment, an element with its two tags, an element without content
  pub data SpellsNode : Node → Text → Type 0 where
    text : {b : ℕ} {s : Text} → Letter b s → SpellsNode (letter b) s
    remarked : (t : Text) → Remark t → SpellsNode comment (bytes "<!--" ++ t ++ bytes "-->")
    full : {n : Text} {k : Content} (t s w : Text) → Tag n t → Spells k s → is_space w ≡ true
        → SpellsNode (element n k) (t ++ bytes ">" ++ s ++ bytes "</" ++ n ++ w ++ bytes ">")
    empty : {n : Text} (t : Text) → Tag n t → SpellsNode (element n none) (t ++ bytes "/>")

  -- s spells the content c: its nodes, one after the other
  pub data Spells : Content → Text → Type 0 where
    nothing : Spells none []
    further : {x : Node} {c : Content} {s t : Text} → SpellsNode x s → Spells c t → Spells (x then c) (s ++ t)

-- ---- documents
-- nothing, or the byte order mark of UTF-8
pub data Mark : Text → Type 0 where
  unmarked : Mark []
  marked : Mark (239 ∷ 187 ∷ 191 ∷ [])

-- nothing, or the XML declaration, which is spelt like a tag
pub data Prolog : Text → Type 0 where
  undeclared : Prolog []
  declared : (a w : Text) → Many Attribute a → is_space w ≡ true → Prolog (bytes "<?xml" ++ a ++ w ++ bytes "?>")

-- what may stand round the element: white space and comments
pub data Aside : Text → Type 0 where
  space : {b : ℕ} → is_white b ≡ true → Aside (b ∷ [])
  note : (t : Text) → Remark t → Aside (bytes "<!--" ++ t ++ bytes "-->")

-- s is a document, and x is its one element
pub data Document (x : Node) : Text → Type 0 where
  document : (m p a s z : Text) → Mark m → Prolog p → Many Aside a → SpellsNode x s → is_element x ≡ true → Many Aside z → Document x (m ++ p ++ a ++ s ++ z)
