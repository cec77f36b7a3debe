-- `importer::budquarry_from_web_xml` meets its contract: a table that is too short, a file that is too long, or what `import_with` ensures.
use borrow.Author.Rules.{rules}
use Rattle.worktable.proofs.Lengths.{long_enough}
use Rattle.importing.proofs.Imports.{import_short, import_long, import_read}
use Rattle.importing.proofs.importer.budquarry_from_web_xml.Goals as goal

pub returns-then-is_short : goal.returns-then-is_short
returns-then-is_short c = search (rules, import_short)

pub zero_first-requires : goal.zero_first-requires
zero_first-requires c = search (rules, long_enough)

pub returns-then-xml-gt-FILE : goal.returns-then-xml-gt-FILE
returns-then-xml-gt-FILE c = search (rules, import_long)

pub import_with-requires : goal.import_with-requires
import_with-requires c = (search rules, (search rules, search (rules, long_enough)))

pub returns : goal.returns
returns c = search (rules, import_read)
