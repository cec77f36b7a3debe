-- `importer::make` meets its contract: measured in the empty part, and written where it fits.
use borrow.Author.Rules.{rules}
use Rattle.importing.proofs.Makings.{long_handed, long_left, small_handed, small_left, fits_handed, fits_left}
use Rattle.importing.proofs.importer.make.Goals as goal

pub returns-then-m-gt-BYTES-clause-handed : goal.returns-then-m-gt-BYTES-clause-handed
returns-then-m-gt-BYTES-clause-handed c = search (rules, long_handed)

pub returns-then-m-gt-BYTES-clause-buffer : goal.returns-then-m-gt-BYTES-clause-buffer
returns-then-m-gt-BYTES-clause-buffer c = search (rules, long_left)

pub returns-then-listing-m-clause-handed : goal.returns-then-listing-m-clause-handed
returns-then-listing-m-clause-handed c = search (rules, small_handed)

pub returns-then-listing-m-clause-buffer : goal.returns-then-listing-m-clause-buffer
returns-then-listing-m-clause-buffer c = search (rules, small_left)

pub returns-clause-handed : goal.returns-clause-handed
returns-clause-handed c = search (rules, fits_handed)

pub returns-clause-buffer : goal.returns-clause-buffer
returns-clause-buffer c = search (rules, fits_left)
