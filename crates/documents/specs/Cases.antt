-- Worked cases, computed.
use Rattle.std.specs.Prelude.{◌≡◌, refl, true, false, [], ◌∷◌, map}
use Rattle.text.specs.Texts.{bytes, all, starts_with}
use Rattle.documents.specs.Chars.{front, after, is_white, is_char, is_plain, is_name_start, is_name_byte, is_quote}
use Rattle.documents.specs.Parts.{got, fault, malformed, ◌>>=◌, ◌>>◌, whether, blamed, turns, many, rounds, walk, word, white, name, quote_mark, quote_entity, entity, letter_of, remark, comment, value, quoted, attribute, attributes, tag, tag_end, start_tag, end_tag, second_tag, goes_on, piece, letters, trim_end, trimmed, order_mark, prolog, aside, asides}

-- ---- first tags
pub first_tags :
    map start_tag (
    bytes "<a x='1' y = \"&quot;\" >b"
    ∷ bytes "<a/>"
    ∷ bytes "<a x='1'y='2'/>"  -- no white space before y
    ∷ bytes "<a x='&nbsp;'/>"  -- no such entity
    ∷ bytes "<!DOCTYPE a>"  -- no name
    ∷ bytes "<a x='1"  -- the text runs out
    ∷ [])
    ≡ got (record { name = bytes "a"; full = true }) (bytes "b")
    ∷ got (record { name = bytes "a"; full = false }) []
    ∷ fault malformed 15
    ∷ fault malformed 15
    ∷ fault malformed 12
    ∷ fault malformed 0
    ∷ []
unfolding start_tag blamed tag tag_end attributes attribute quoted value letter_of entity quote_entity quote_mark name white word many turns ◌>>=◌ whether starts_with front after is_white is_char is_plain is_name_start is_name_byte is_quote
first_tags = refl

-- ---- second tags of the name a
pub second_tags :
    map (second_tag (bytes "a")) (bytes "</a\n>b" ∷ bytes "</ab>" ∷ bytes "</b" ∷ bytes "</a" ∷ [])
    ≡ got tt (bytes "b") ∷ fault malformed 5 ∷ fault malformed 3 ∷ fault malformed 0 ∷ []
unfolding second_tag end_tag blamed white word ◌>>=◌ whether after is_white
second_tags = refl

-- ---- comments
pub comments :
    map comment (
    bytes "<!-- - -->b"
    ∷ bytes "<!---->"
    ∷ bytes "<!-- ---><a/>"  -- three hyphens
    ∷ bytes "<!-- -- -->"  -- two inside
    ∷ bytes "<!-- --"  -- the text runs out
    ∷ [])
    ≡ got tt (bytes "b") ∷ got tt [] ∷ fault malformed 13 ∷ fault malformed 11 ∷ fault malformed 0 ∷ []
unfolding comment remark blamed word ◌>>=◌ whether is_char is_white
comments = refl

-- ---- texts, whose faults are put where 9 bytes are left
pub texts :
    map (letters 9) (
    bytes " a<!-- -->b&lt;</c>"
    ∷ bytes "<b/>"
    ∷ bytes "a&nbsp;"  -- no such entity
    ∷ bytes "a<!-- -- -->b"  -- a fault of a comment is put at its `<`
    ∷ bytes "a"  -- the text runs out: all of it was read
    ∷ [])
    ≡ got (bytes " ab<") (bytes "</c>") ∷ got [] (bytes "<b/>") ∷ fault malformed 9 ∷ fault malformed 12 ∷ got (bytes "a") [] ∷ []
unfolding letters piece goes_on comment remark blamed letter_of entity quote_entity rounds walk word ◌>>=◌ whether starts_with is_plain is_char is_white
texts = refl

pub trimmings : map trimmed (bytes "\n a b " ∷ bytes " \t" ∷ [] ∷ []) ≡ bytes "a b" ∷ [] ∷ [] ∷ []
unfolding trimmed trim_end all after is_white
trimmings = refl

-- ---- round the element
pub beginnings :
    map (order_mark >> prolog >> asides) (
    (239 ∷ 187 ∷ 191 ∷ bytes "<?xml version='1.0'?>\n<!-- -->\n<a/>")
    ∷ bytes "<a/>"
    ∷ bytes "<?xml version='1.0'><a/>"  -- another end
    ∷ bytes "<?xml versi"  -- the text runs out
    ∷ [])
    ≡ got tt (bytes "<a/>") ∷ got tt (bytes "<a/>") ∷ fault malformed 24 ∷ fault malformed 0 ∷ []
unfolding order_mark prolog asides aside comment remark blamed attributes attribute quoted value letter_of entity quote_entity quote_mark name white word many turns ◌>>=◌ whether starts_with front after is_white is_char is_plain is_name_start is_name_byte is_quote
beginnings = refl
