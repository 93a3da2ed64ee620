use Rattle.std.proofs.Common.{rules}
use Rattle.layout.proofs.Exact.{exact-from, refused-from}
use Rattle.job.proofs.table.Table.load.Goals as goal

pub returns-then-is_err-clause-refused : goal.returns-then-is_err-clause-refused
returns-then-is_err-clause-refused c = refused-from _ _ (search rules)

pub returns-then-is_err-clause-exact : goal.returns-then-is_err-clause-exact
returns-then-is_err-clause-exact c = exact-from _ _ _ (search rules) (search rules)

pub returns-else-is_err-clause-refused : goal.returns-else-is_err-clause-refused
returns-else-is_err-clause-refused c = refused-from _ _ (search rules)

pub returns-else-is_err-clause-exact : goal.returns-else-is_err-clause-exact
returns-else-is_err-clause-exact c = exact-from _ _ _ (search rules) (search rules)
