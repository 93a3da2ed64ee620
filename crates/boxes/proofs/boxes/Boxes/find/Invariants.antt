use Rattle.std.proofs.Common.{length}
use Rattle.boxes.specs.Chains.{next, chain}
use Rattle.boxes.proofs.Searches.{Searching}
use Rattle.boxes.proofs.boxes.Boxes.find.Given as goal

abbrev pub invariant-loop-at : goal.invariant-loop-at
invariant-loop-at l = Searching l.self l.asked l.cell

abbrev pub decreases-loop-at : goal.decreases-loop-at
decreases-loop-at l = length (chain (next l.self.pool.links) 64 (next l.self.pool.links l.cell))
