-- `comparer::tell` meets its contract: no wider, or the hit shown.
use borrow.Author.Rules.{rules}
use Rattle.comparing.proofs.Tellings.{none_handed, none_written, found_in, hit_short, hit_handed, hit_written}
use Rattle.comparing.proofs.comparer.tell.Goals as goal

pub put_wider-requires : goal.put_wider-requires
put_wider-requires c = (search rules, search (rules, found_in))

pub tell-requires-in-Some : goal.tell-requires-in-Some
tell-requires-in-Some c = search (rules, hit_short)

pub returns-in-None-clause-handed : goal.returns-in-None-clause-handed
returns-in-None-clause-handed c = search (rules, none_handed)

pub returns-in-None-clause-answer : goal.returns-in-None-clause-answer
returns-in-None-clause-answer c = search (rules, none_written)

pub returns-in-Some-clause-handed : goal.returns-in-Some-clause-handed
returns-in-Some-clause-handed c = search (rules, hit_handed)

pub returns-in-Some-clause-answer : goal.returns-in-Some-clause-answer
returns-in-Some-clause-answer c = search (rules, hit_written)
