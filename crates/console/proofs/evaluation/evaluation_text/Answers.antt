use Rattle.std.proofs.Common.{refl}
use Rattle.console.proofs.Jobs.{some-node}
use Rattle.console.proofs.evaluation.evaluation_text.Goals as goal

pub invariant_of-loaded : goal.invariant_of-loaded
invariant_of-loaded c = record { some = some-node c.args.job.now _ ((c.in_ok-load.ensures.exact _).1 refl refl) }
