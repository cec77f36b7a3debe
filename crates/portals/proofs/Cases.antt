-- Files that antt reads, computed from their bytes.
use mathlib.Core.Path.{◌≡◌, refl}
use mathlib.Core.List.{map}
use Rattle.text.specs.Bytes.{is_text, is_token}
use Rattle.listings.specs.Records.{names_role}
use Rattle.listings.specs.Fields.{name_fits, pattern_fits}
use Rattle.listings.specs.Counts.{too_many}
use Rattle.listings.specs.Refusals.{declares_again}
use Rattle.documents.specs.Chars.{is_white, is_char, is_plain, is_name_start, is_name_byte, is_quote, front, after}
use Rattle.documents.specs.Parts.{◌>>=◌, whether, blamed, turns, many, rounds, walk, word, white, name, quote_mark, quote_entity, entity, letter_of, remark, comment, value, quoted, attribute, attributes, tag, tag_end, start_tag, end_tag, second_tag, ends, goes_on, piece, letters, trim_end, trimmed, order_mark, prolog, aside, asides, ending}
use Rattle.portals.specs.Elements.{sort_of}
use Rattle.portals.specs.Records.{first_fault, guarded}
use Rattle.portals.specs.Readings.{file_of}
use Rattle.portals.specs.Listings.{written}
use Rattle.portals.specs.Outcomes.{line_at, made_of}
use Rattle.portals.specs.Worked.{outcome_of, asked, answers, faulty, refusals}

-- the listings of some files, and of others the refusal with its line
pub worked_files : (map outcome_of asked ≡ answers) × (map outcome_of faulty ≡ refusals)
unfolding file_of first_fault guarded written line_at made_of sort_of name_fits pattern_fits declares_again too_many names_role is_text is_token is_white is_char is_plain is_name_start is_name_byte is_quote front after ◌>>=◌ whether blamed turns many rounds walk word white name quote_mark quote_entity entity letter_of remark comment value quoted attribute attributes tag tag_end start_tag end_tag second_tag ends goes_on piece letters trim_end trimmed order_mark prolog aside asides ending asked answers faulty refusals
worked_files = (refl, refl)
