-- Number 0 stands beside an answer, which is printed as it is; beside another the refusal's line is.
use Rattle.std.proofs.Common.{rules}
use Rattle.compare.proofs.Prints.{answer_size_lem, answer_bytes, answer_fits, refused_size, refused_bytes}
use Rattle.compare.proofs.printing.compare_into.Goals as goal

pub returns-then-r-eq0-clause-outcome : goal.returns-then-r-eq0-clause-outcome
returns-then-r-eq0-clause-outcome c = record { counted = search (rules, answer_size_lem); printed = search (rules, answer_bytes); worked = search rules }

pub returns-then-r-eq0-clause-fits : goal.returns-then-r-eq0-clause-fits
returns-then-r-eq0-clause-fits c = search (rules, answer_fits)

pub returns-clause-outcome : goal.returns-clause-outcome
returns-clause-outcome c = record { counted = search (rules, refused_size); printed = search (rules, refused_bytes); worked = search rules }
