-- `matching::starred_strength` meets its contract, test by test.
use borrow.Author.Rules.{rules}
use Rattle.text.proofs.Truths.{ladder}
use Rattle.matching.proofs.Matchings.{starred_segment, starred_other, starred_is}
use Rattle.matching.proofs.starred_strength.Goals as goal
use Rattle.matching.proofs.starred_strength.Goals.{else-are_alike-via-then-are_alike+else-is_extension, else-are_alike-via-else-are_alike}

pub returns-in_default : goal.returns-in_default
returns-in_default c = search (rules, starred_segment)

pub returns-in_default-strip_prefix : goal.returns-in_default-strip_prefix
returns-in_default-strip_prefix c = search (rules, starred_other)

pub returns-then-is_extension : goal.returns-then-is_extension
returns-then-is_extension c = starred_is _ _ _ _ _ _ c.requires c.in-Extension.is c.in-Some.ensures.cases.0 c.in-Some.ensures.cases.1 (search (rules, ladder))

pub returns : goal.returns
returns c =
    elim c.else-are_alike.branch [
      | else-are_alike-via-then-are_alike+else-is_extension w ↦ starred_is _ _ _ _ _ _ c.requires c.in-Extension.is c.in-Some.ensures.cases.0 c.in-Some.ensures.cases.1 (search (rules, ladder))
      | else-are_alike-via-else-are_alike w ↦ starred_is _ _ _ _ _ _ c.requires c.in-Extension.is c.in-Some.ensures.cases.0 c.in-Some.ensures.cases.1 (search (rules, ladder))
    ]
