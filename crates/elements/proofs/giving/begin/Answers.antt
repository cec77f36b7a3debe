-- `giving::begin` meets its contract, effect by effect.
use borrow.Author.Rules.{rules}
use Rattle.elements.proofs.Givings.{offered_open, offered_none, begin_constraint, begin_collection, begin_guard, begin_nothing}
use Rattle.elements.proofs.giving.begin.Goals as goal

pub give-requires : goal.give-requires
give-requires c = (search (rules, offered_open), search rules)

pub give-requires-in-Collects : goal.give-requires-in-Collects
give-requires-in-Collects c = (search (rules, offered_none), search rules)

pub returns-in-Opens : goal.returns-in-Opens
returns-in-Opens c = search (rules, begin_constraint)

pub returns-in-Collects : goal.returns-in-Collects
returns-in-Collects c = search (rules, begin_collection)

pub returns-in-Guards : goal.returns-in-Guards
returns-in-Guards c = search (rules, begin_guard)

pub returns-in-Nothing : goal.returns-in-Nothing
returns-in-Nothing c = search (rules, begin_nothing)
