-- `tables::without_member` meets its contract: the shift is the power.
use borrow.Author.Rules.{rules}
use Rattle.entries.proofs.Members.{member_out}
use Rattle.entries.proofs.tables.without_member.Goals as goal

pub returns : goal.returns
returns c = search (rules, member_out)
