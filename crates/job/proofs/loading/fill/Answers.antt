use Rattle.std.proofs.Common.{rules}
use Rattle.layout.proofs.Contained.{records-ranged}
use Rattle.job.proofs.loading.fill.Goals as goal

pub returns-clause-ranged : goal.returns-clause-ranged
returns-clause-ranged c = search (rules, records-ranged)
