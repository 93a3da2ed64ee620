use Rattle.std.proofs.Common.{rules}
use Rattle.render.proofs.Texts.{lines_more}
use Rattle.render.proofs.evaluation.report.Goals as goal

pub loop-c-preserved : goal.loop-c-preserved
loop-c-preserved g c = search (rules, lines_more)
