-- `Reader::past_first` meets its contract: a law of Loads for each return.
use borrow.Author.Rules.{rules}
use Rattle.reading.proofs.Loads.{gone_long, gone_headless, gone_on}
use Rattle.reading.proofs.reader.Reader.past_first.Goals as goal

pub returns-then-most-self : goal.returns-then-most-self
returns-then-most-self c = search (rules, gone_long)

pub returns-then-not-has_first_line : goal.returns-then-not-has_first_line
returns-then-not-has_first_line c = search (rules, gone_headless)

pub returns : goal.returns
returns c = search (rules, gone_on)
