-- `arranging::put_listing` meets its contract: four pieces one after the other.
use borrow.Author.Rules.{rules}
use Rattle.forming.proofs.Sizes.{roles_room, blocks_room, end_low, listing_size, listing_bytes}
use Rattle.forming.proofs.arranging.put_listing.Goals as goal

pub put_roles-b-requires : goal.put_roles-b-requires
put_roles-b-requires c = (search rules, search (rules, roles_room))

pub put_blocks-c-requires : goal.put_blocks-c-requires
put_blocks-c-requires c = (search rules, search (rules, blocks_room))

pub put-requires : goal.put-requires
put-requires c = (search (rules, end_low), search rules)

pub returns-clause-size : goal.returns-clause-size
returns-clause-size c = search (rules, listing_size)

pub returns-clause-bytes : goal.returns-clause-bytes
returns-clause-bytes c = search (rules, listing_bytes)
