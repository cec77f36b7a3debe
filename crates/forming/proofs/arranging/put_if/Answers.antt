-- `arranging::put_if` meets its contract: its line, or nothing.
use borrow.Author.Rules.{rules}
use Rattle.forming.proofs.Orders.{put_place, put_bytes, nothing_place, nothing_bytes, line_wanted, none_wanted}
use Rattle.forming.proofs.arranging.put_if.Goals as goal

pub returns-then-wanted-clause-place : goal.returns-then-wanted-clause-place
returns-then-wanted-clause-place c = search (rules, put_place, line_wanted)

pub returns-then-wanted-clause-bytes : goal.returns-then-wanted-clause-bytes
returns-then-wanted-clause-bytes c = search (rules, put_bytes, line_wanted)

pub returns-clause-place : goal.returns-clause-place
returns-clause-place c = search (rules, nothing_place, none_wanted)

pub returns-clause-bytes : goal.returns-clause-bytes
returns-clause-bytes c = search (rules, nothing_bytes, none_wanted)
