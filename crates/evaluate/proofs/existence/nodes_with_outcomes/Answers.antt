use Rattle.job.proofs.Tabled.{table-shape}
use Rattle.evaluate.proofs.Outcomes.{exists, only-outcome}
use Rattle.evaluate.proofs.existence.nodes_with_outcomes.Goals as goal

pub returns : goal.returns
returns g c = record {
  number = c.len.ensures;
  one = λ source rules d low high. let e = exists source rules (table-shape c.args.table.now) d low high in (e.0, only-outcome e.1);
}
