-- `walking::catch_together` meets its contract: the rosters that are picked are judged.
use borrow.Author.Rules.{rules}
use Rattle.walks.proofs.Walkings.{picked_size, stem_old_size, stem_new_size, together_judged}
use Rattle.walks.proofs.walking.catch_together.Goals as goal

pub judge-requires : goal.judge-requires
judge-requires c = search (rules, picked_size, stem_old_size, stem_new_size)

pub returns : goal.returns
returns c = search (rules, together_judged)
