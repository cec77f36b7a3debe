-- Each byte of the name is below 128.
use Rattle.std.proofs.Common.{rules}
use Rattle.std.proofs.lemmas.Str.{IsUtf8-from_ascii}
use Rattle.std.proofs.lemmas.Str.Ascii.{IsAscii-nil, IsAscii-cons}
use Rattle.edges.proofs.cases.case_name.Goals as goal

pub returns-clause-text : goal.returns-clause-text
returns-clause-text c = search (rules, IsUtf8-from_ascii, IsAscii-nil, IsAscii-cons) depth 12
