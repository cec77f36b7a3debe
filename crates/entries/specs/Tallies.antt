-- The counts of the work table after each record.
use Rattle.std.specs.Prelude.{◌+◌}
use Rattle.listings.specs.declared.records.Stage.{Stage}
use Rattle.listings.specs.declared.records.Stage.TheVariants.{AfterFirst, AfterRole, AfterAllow, AfterCollection, AfterPattern}
use Rattle.entries.specs.declared.tables.Tally.{Tally}

abbrev pub start_tally : Tally
start_tally = record { stage = AfterFirst; lines = 0; declared = 0; roles = 0; methods = 0; patterns = 0; collections = 0; constraints = 0 }

abbrev pub tally_at : Tally → Stage → Tally
tally_at t p = record { stage = p; lines = t.lines; declared = t.declared; roles = t.roles; methods = t.methods; patterns = t.patterns; collections = t.collections; constraints = t.constraints }

abbrev pub tally_role : Tally → Tally
tally_role t = record { stage = AfterRole; lines = t.lines; declared = t.declared + 1; roles = t.roles + 1; methods = t.methods; patterns = t.patterns; collections = t.collections; constraints = t.constraints }

abbrev pub tally_constraint : Tally → Stage → Tally
tally_constraint t p = record { stage = p; lines = t.lines; declared = t.declared; roles = t.roles; methods = t.methods; patterns = t.patterns; collections = t.collections; constraints = t.constraints + 1 }

abbrev pub tally_allowed : Tally → Tally
tally_allowed t = record { stage = AfterAllow; lines = t.lines; declared = t.declared; roles = t.roles + 1; methods = t.methods; patterns = t.patterns; collections = t.collections; constraints = t.constraints }

abbrev pub tally_collection : Tally → Tally
tally_collection t = record { stage = AfterCollection; lines = t.lines; declared = t.declared; roles = t.roles; methods = t.methods; patterns = t.patterns; collections = t.collections + 1; constraints = t.constraints }

abbrev pub tally_pattern : Tally → Tally
tally_pattern t = record { stage = AfterPattern; lines = t.lines; declared = t.declared; roles = t.roles; methods = t.methods; patterns = t.patterns + 1; collections = t.collections; constraints = t.constraints }

abbrev pub tally_line : Tally → Stage → Tally
tally_line t p = record { stage = p; lines = t.lines + 1; declared = t.declared; roles = t.roles; methods = t.methods; patterns = t.patterns; collections = t.collections; constraints = t.constraints }

abbrev pub tally_method : Tally → Stage → Tally
tally_method t p = record { stage = p; lines = t.lines + 1; declared = t.declared; roles = t.roles; methods = t.methods + 1; patterns = t.patterns; collections = t.collections; constraints = t.constraints }
