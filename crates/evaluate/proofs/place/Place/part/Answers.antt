use Rattle.std.proofs.Common.{arith, rules}
use Rattle.job.proofs.Tabled.{table-shape}
use Rattle.evaluate.proofs.Sides.{leaf-ranged, fork-sided}
use Rattle.evaluate.proofs.place.Place.part.Goals as goal

pub invariant_of-result : goal.invariant_of-result
invariant_of-result c = grind (arith, leaf-ranged (table-shape c.args.self.table.now) c.in-Leaf.ensures)

pub invariant_of-result-in-Fork : goal.invariant_of-result-in-Fork
invariant_of-result-in-Fork c = grind (arith, fork-sided (table-shape c.args.self.table.now) c.in-Fork.ensures)

pub invariant_of-result-in-Fork-2 : goal.invariant_of-result-in-Fork-2
invariant_of-result-in-Fork-2 c = grind (arith, fork-sided (table-shape c.args.self.table.now) c.in-Fork.ensures)

pub returns-in-Fork : goal.returns-in-Fork
returns-in-Fork c = search (rules, fork-sided (table-shape c.args.self.table.now) c.in-Fork.ensures)
