use Rattle.std.proofs.Common.{length, sym, ap, subst, arith}
use Rattle.boxes.specs.Chains.{chain}
use Rattle.boxes.proofs.Searches.{Searching, search-chain, search-on, search-ends}
use Rattle.boxes.proofs.boxes.Boxes.find.Goals as goal

pub returns-then-holds : goal.returns-then-holds
returns-then-holds c =
    search-ends c.args.self.now c.args.asked c.loop-at.cell c.in-Some.at c.loop-at.invariant c.in-Some.ensures c.if-holds.ensures

pub loop-at-smaller : goal.loop-at-smaller
loop-at-smaller c = rw c.from-cell.ensures (omega (
  arith,
  ap length (search-chain c.args.self.now c.args.asked c.loop-at.cell c.in-Some.at c.loop-at.invariant c.in-Some.ensures),
))

pub loop-at-preserved : goal.loop-at-preserved
loop-at-preserved c = subst (Searching c.args.self.now c.args.asked) (sym c.from-cell.ensures)
    (search-on c.args.self.now c.args.asked c.loop-at.cell c.in-Some.at c.loop-at.invariant c.in-Some.ensures c.if-holds.ensures)

pub returns : goal.returns
unfolding chain
returns c = rw (← c.in_default.ensures) at c.loop-at.invariant.onward
