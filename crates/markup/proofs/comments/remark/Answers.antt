use borrow.Author.Rules.{rules}
use Rattle.markup.proofs.Places.{remark_open, remark_closes, remark_hyphen, remark_wrong, remark_other}
use Rattle.markup.proofs.comments.remark.Goals.{then-b-eq45+else-dash, else-b-eq45+then-is_char}
use Rattle.markup.proofs.comments.remark.Goals as goal

pub returns-then-dash-clause-exact : goal.returns-then-dash-clause-exact
returns-then-dash-clause-exact c = search (rules, remark_closes)

pub returns-else-is_char-clause-exact : goal.returns-else-is_char-clause-exact
returns-else-is_char-clause-exact c = search (rules, remark_wrong)

pub loop-n-preserved : goal.loop-n-preserved
loop-n-preserved c = (
  search rules,
  search rules,
  elim c.if-b-eq45.branch [ then-b-eq45+else-dash w ↦ rw w.dash-is (search (rules, remark_hyphen)) | else-b-eq45+then-is_char w ↦ rw w.dash-is (search (rules, remark_other)) ],
)

pub returns-clause-exact : goal.returns-clause-exact
returns-clause-exact c = search (rules, remark_open)
