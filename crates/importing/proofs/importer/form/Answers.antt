-- `importer::form` meets its contract: more records than have room, or their listing.
use borrow.Author.Rules.{rules}
use Rattle.importing.proofs.Makings.{many_handed, many_left, few_formed, few_handed, few_left}
use Rattle.importing.proofs.importer.form.Goals as goal

pub returns-then-n-gt-MOST-clause-handed : goal.returns-then-n-gt-MOST-clause-handed
returns-then-n-gt-MOST-clause-handed c = search (rules, many_handed)

pub returns-then-n-gt-MOST-clause-buffer : goal.returns-then-n-gt-MOST-clause-buffer
returns-then-n-gt-MOST-clause-buffer c = search (rules, many_left)

pub make-requires : goal.make-requires
make-requires c = search (rules, few_formed)

pub returns-clause-handed : goal.returns-clause-handed
returns-clause-handed c = search (rules, few_handed)

pub returns-clause-buffer : goal.returns-clause-buffer
returns-clause-buffer c = search (rules, few_left)
