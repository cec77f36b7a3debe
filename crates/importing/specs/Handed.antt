-- What is handed back to C, as portals/specs/Outcomes has it: four numbers.
use Rattle.portals.specs.Outcomes.{Handed, handed}
use Rattle.importing.specs.declared.answers.Import.{Import}

abbrev pub handed_by : Import → Handed
handed_by r = handed r.report.number r.report.side r.report.line r.length
