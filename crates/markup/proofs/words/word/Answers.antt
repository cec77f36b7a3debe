use borrow.Author.Rules.{rules}
use Rattle.markup.proofs.Steps.{passed}
use Rattle.markup.proofs.Loops.{word_stops, word_turns, word_done}
use Rattle.markup.proofs.words.word.Goals as goal

pub returns-in_err-n-clause-exact : goal.returns-in_err-n-clause-exact
returns-in_err-n-clause-exact c = passed c.from_residual.ensures.1 (search (rules, word_stops))

pub loop-b-preserved : goal.loop-b-preserved
loop-b-preserved c = (search rules, search rules, search (rules, word_turns))

pub returns-clause-exact : goal.returns-clause-exact
returns-clause-exact c = search (rules, word_done)
