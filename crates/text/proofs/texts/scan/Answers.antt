use borrow.Author.Rules.{rules}
use Rattle.text.proofs.Spans.{scan_past, field_end_tab, field_end_newline, field_last_end, field_last_clean, scan_text, scan_other}
use Rattle.text.proofs.texts.scan.Goals as goal
use Rattle.text.proofs.texts.scan.Goals.{then-b-eq9-via-then-b-eq9, then-b-eq9-via-else-b-eq9+then-b-eq10, then-not-is_text+else-b-eq9+else-b-eq10, else-not-is_text}

pub loop-i-init : goal.loop-i-init
loop-i-init c = search (rules, scan_past)

pub returns-then-b-eq9-clause-end : goal.returns-then-b-eq9-clause-end
returns-then-b-eq9-clause-end c =
    elim c.then-b-eq9.branch [
      | then-b-eq9-via-then-b-eq9 w ↦ search (rules, field_end_tab)
      | then-b-eq9-via-else-b-eq9+then-b-eq10 w ↦ search (rules, field_end_newline)
    ]

pub loop-i-preserved : goal.loop-i-preserved
loop-i-preserved c =
    elim c.if-not-is_text.branch [
      | then-not-is_text+else-b-eq9+else-b-eq10 w ↦ search (rules, scan_other)
      | else-not-is_text w ↦ search (rules, scan_text)
    ]

pub returns-clause-end : goal.returns-clause-end
returns-clause-end c = search (rules, field_last_end)

pub returns-clause-clean : goal.returns-clause-clean
returns-clause-clean c = search (rules, field_last_clean)
