-- `rosters::code_for` meets its contract.
use borrow.Author.Rules.{rules}
use Rattle.grants.proofs.Granting.{code_taken, code_passed}
use Rattle.grants.proofs.rosters.code_for.Goals as goal

pub returns-then-cover-m-eq1 : goal.returns-then-cover-m-eq1
returns-then-cover-m-eq1 c = search (rules, code_taken)

pub returns : goal.returns
returns c = search (rules, code_passed)
