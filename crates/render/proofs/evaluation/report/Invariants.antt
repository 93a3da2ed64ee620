use Rattle.std.proofs.Common.{take, string_bytes}
use Rattle.std.specs.Fmt.{AppendsText}
use Rattle.job.specs.Tables.{nodes_of}
use Rattle.render.specs.Report.{lines_text}
use Rattle.render.proofs.evaluation.report.Given as goal

-- the lines of the nodes so far stand after the head
abbrev pub invariant-loop-c : goal.invariant-loop-c
invariant-loop-c g l = AppendsText (string_bytes l.initial.text) (string_bytes l.text) (lines_text g.V.Display.output (nodes_of l.table) l.cells (take l.c-index l.order))
