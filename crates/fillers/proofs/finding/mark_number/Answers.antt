use borrow.Author.Rules.{rules}
use Rattle.fillers.proofs.MarkingTexts.{passed_none, passed_digit, number_starts, number_ends, number_below, number_above, number_large, number_zero, number_turns}
use Rattle.fillers.proofs.finding.mark_number.Goals as goal

pub loop-i-init : goal.loop-i-init
loop-i-init c = (search (rules, passed_none), search rules, search rules, search (rules, number_starts))

pub returns-then-b-lt48-clause-marked : goal.returns-then-b-lt48-clause-marked
returns-then-b-lt48-clause-marked c = search (rules, number_below)

pub returns-then-b-gt57-clause-marked : goal.returns-then-b-gt57-clause-marked
returns-then-b-gt57-clause-marked c = search (rules, number_above)

pub returns-then-v-gt65535-clause-marked : goal.returns-then-v-gt65535-clause-marked
returns-then-v-gt65535-clause-marked c = search (rules, number_large)

pub returns-then-v-eq0-clause-marked : goal.returns-then-v-eq0-clause-marked
returns-then-v-eq0-clause-marked c = search (rules, number_zero)

pub loop-i-preserved : goal.loop-i-preserved
loop-i-preserved c = (search (rules, passed_digit), search rules, search rules, search (rules, number_turns))

pub returns-clause-marked : goal.returns-clause-marked
returns-clause-marked c = search (rules, number_ends)
