use Rattle.evaluate.proofs.Orders.{leaf-appended, fork-appended}
use Rattle.evaluate.proofs.traversal.+visit.Goals as goal
use Rattle.evaluate.proofs.traversal.+visit.Goals.{in-Leaf, in-Fork+in_ok-visit-in-Fork+in_ok-visit-in-Fork-2}

pub returns : goal.returns
returns t c =
    elim c.match-part.branch [
      | in-Leaf w ↦ leaf-appended _ _ w.in-Leaf.ensures (rw w.order-is at c.in_ok-push.ensures.items)
      | in-Fork+in_ok-visit-in-Fork+in_ok-visit-in-Fork-2 w ↦
          let f = w.in-Fork.ensures in
          fork-appended f.here (rw f.left.same at w.in_ok-visit-in-Fork.ensures) (rw f.right.same at w.in_ok-visit-in-Fork-2.ensures)
          (rw w.order-is at c.in_ok-push.ensures.items)
    ]
