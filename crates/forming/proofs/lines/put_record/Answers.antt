-- `lines::put_record` meets its contract: three pieces one after the other.
use borrow.Author.Rules.{rules}
use Rattle.forming.proofs.Pieces.{head_low, field_low, record_place, record_bytes}
use Rattle.forming.proofs.lines.put_record.Goals as goal

pub put_field-b-requires : goal.put_field-b-requires
put_field-b-requires c = search (rules, head_low)

pub put-requires : goal.put-requires
put-requires c = search (rules, field_low)

pub returns-clause-place : goal.returns-clause-place
returns-clause-place c = search (rules, record_place)

pub returns-clause-bytes : goal.returns-clause-bytes
returns-clause-bytes c = search (rules, record_bytes)
