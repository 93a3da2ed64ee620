use Rattle.std.proofs.Common.{◌-◌, length, take, Some, None, rules}
use Rattle.job.proofs.Named.{complete-by}
use Rattle.job.proofs.naming.check_complete.Goals as goal

pub returns-in-Some : goal.returns-in-Some
returns-in-Some c = complete-by (take (length c.args.found.now - 1) c.args.found.now) (Some c.in-Some.i) (search rules)

pub returns-in-None : goal.returns-in-None
returns-in-None c = complete-by (take (length c.args.found.now - 1) c.args.found.now) None (search rules)
