-- 01's worked request 12, from the bytes of the listings to the bytes of the answer, as antt computes it.
use mathlib.Core.Path.{◌≡◌, refl}
use mathlib.Core.List.{◌++◌}
use Rattle.text.specs.Texts.{Text, bytes}
use Rattle.text.specs.Bytes.{is_text, is_token}
use Rattle.names.specs.Names.{is_role_name, is_method_name}
use Rattle.listings.specs.Records.{names_role}
use Rattle.listings.specs.Refusals.{reading_of}
use Rattle.listings.specs.Listings.{listing_of}
use Rattle.trials.specs.Verdicts.{verdict}
use Rattle.trials.specs.Answers.{answer_of}
use Rattle.comparisons.specs.Outcomes.{answered, compared_old}

-- `old.txt` and `new.txt`: "New is old with these lines before `end`"
pub old_text : Text
old_text = bytes "constraints\t1\nrole\tassessor\nconstraint\tauth\nallow\tassessor\ncollection\npattern\t/clock/*\n" ++ bytes "end\n"

-- with a constraint more
pub new_text : Text
new_text =
    bytes "constraints\t1\nrole\tassessor\nconstraint\tauth\nallow\tassessor\ncollection\npattern\t/clock/*\n"
    ++ bytes "constraint\tauth\nallow\tassessor\ncollection\npattern\t/clock/offset\nmethod\tGET\n"
    ++ bytes "end\n"

-- what a comparison comes to where 1 and 14 are not given, and so what the compare program prints
pub worked_request_12 : compared_old old_text new_text (reading_of old_text) ≡ answered (bytes "verdict\twider\npath\t/clock/offset\nmethod\tQ0\ncaller\tnone\n")
unfolding old_text new_text reading_of is_text is_token names_role is_method_name is_role_name listing_of verdict answer_of
worked_request_12 = refl

-- the other way round nothing is granted anew
pub worked_request_12_back : compared_old new_text old_text (reading_of new_text) ≡ answered (bytes "verdict\tno wider\n")
unfolding old_text new_text reading_of is_text is_token names_role is_method_name is_role_name listing_of verdict answer_of
worked_request_12_back = refl
