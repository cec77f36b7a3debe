-- `lines::put_field` meets its contract, kind by kind.
use borrow.Author.Rules.{rules}
use Rattle.forming.proofs.Pieces.{open_place, open_bytes, auth_place, auth_bytes, none_place, none_bytes, text_place, text_bytes, text_fits}
use Rattle.forming.proofs.lines.put_field.Goals as goal

pub returns-in-Open-clause-place : goal.returns-in-Open-clause-place
returns-in-Open-clause-place c = search (rules, open_place)

pub returns-in-Open-clause-bytes : goal.returns-in-Open-clause-bytes
returns-in-Open-clause-bytes c = search (rules, open_bytes)

pub returns-in-Auth-clause-place : goal.returns-in-Auth-clause-place
returns-in-Auth-clause-place c = search (rules, auth_place)

pub returns-in-Auth-clause-bytes : goal.returns-in-Auth-clause-bytes
returns-in-Auth-clause-bytes c = search (rules, auth_bytes)

pub returns-in-Collection-clause-place : goal.returns-in-Collection-clause-place
returns-in-Collection-clause-place c = search (rules, none_place)

pub returns-in-Collection-clause-bytes : goal.returns-in-Collection-clause-bytes
returns-in-Collection-clause-bytes c = search (rules, none_bytes)

pub put_text-requires : goal.put_text-requires
put_text-requires c = (search rules, (search (rules, text_fits), search rules))

pub returns-in_default : goal.returns-in_default
returns-in_default c = record { place = search (rules, text_place); bytes = search (rules, text_bytes) }
