-- How the letters of a text are gathered into a buffer, one by one, without the white space at both ends. This serves the proofs: what is gathered is `trimmed` of the letters.
use Rattle.std.specs.Prelude.{cond, ◌&&◌, ℕ, suc, eqb, set}
use Rattle.text.specs.Texts.{Text}
use Rattle.documents.specs.Chars.{is_white, next}
use Rattle.documents.specs.Parts.{Reader, ◌>>=◌, ◌>>◌, return, whether, blamed, walk, comment, letter_of, goes_on}

-- how many letters are kept, from the first on that is no white space; how many up to the last that is none; and the buffer
pub record Tally : Type 0 where
  pub kept : ℕ
  pub size : ℕ
  pub out : Text

abbrev pub nothing_kept : Text → Tally
nothing_kept out = record { kept = 0; size = 0; out = out }

-- one letter more
unfoldable pub keeps : Tally → ℕ → Tally
keeps z b =
    cond (eqb z.kept 0 && is_white b) z
    (record { kept = suc z.kept; size = cond (is_white b) z.size (suc z.kept); out = set z.out z.kept b })

-- a letter, kept, or a comment
unfoldable pub keep_one : ℕ → Tally → Reader Tally
keep_one n z s = whether (next (eqb 60) s) (comment >> return z) (blamed n letter_of >>= λ b. return (keeps z b)) s

-- the letters up to the next tag, kept
unfoldable pub keep_all : ℕ → Tally → Reader Tally
keep_all n = walk goes_on (keep_one n)
