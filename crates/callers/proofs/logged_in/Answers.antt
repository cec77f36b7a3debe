use Rattle.std.proofs.Common.{rules}
use Rattle.callers.proofs.Callings.{names_begin, names_end, name_unended, name_wrong, name_past, name_read}
use Rattle.callers.proofs.logged_in.Goals as goal

pub loop-at-init : goal.loop-at-init
loop-at-init c = search (rules, names_begin)

pub returns-then-not-ends_at : goal.returns-then-not-ends_at
returns-then-not-ends_at c = search (rules, name_unended)

pub returns-then-not-is_role_name : goal.returns-then-not-is_role_name
returns-then-not-is_role_name c = search (rules, name_wrong)

pub returns-then-count-ge32 : goal.returns-then-count-ge32
returns-then-count-ge32 c = search (rules, name_past)

pub loop-at-preserved : goal.loop-at-preserved
loop-at-preserved c = search (rules, name_read)

pub returns : goal.returns
returns c = search (rules, names_end)
