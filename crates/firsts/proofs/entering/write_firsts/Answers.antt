use borrow.Author.Rules.{rules}
use Rattle.firsts.proofs.Enterings.{entering_start, entering_next, entering_more, entering_all}
use Rattle.firsts.proofs.entering.write_firsts.Goals as goal

pub loop-j-init : goal.loop-j-init
loop-j-init c = search (rules, entering_start)

pub enter-requires : goal.enter-requires
enter-requires c = search (rules, entering_next)

pub loop-j-preserved : goal.loop-j-preserved
loop-j-preserved c = search (rules, entering_more)

pub returns : goal.returns
returns c = search (rules, entering_all)
