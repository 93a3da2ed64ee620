use Rattle.job.proofs.Tabled.{table-shape}
use Rattle.evaluate.proofs.Orders.{empty-ordered, root-ordered}
use Rattle.evaluate.proofs.traversal.left_to_right.Goals as goal
use Rattle.evaluate.proofs.traversal.left_to_right.Goals.{in-Some+in_ok-visit, in_default}

pub returns : goal.returns
returns c =
    elim c.match-root.branch [
      | in-Some+in_ok-visit w ↦
          let r = w.in-Some.ensures in
          rw w.order-is (root-ordered (table-shape c.args.table.now) (rw (r.same, r.last, c.in_ok-order.ensures.items) at w.in_ok-visit.ensures))
      | in_default w ↦ rw w.order-is (empty-ordered w.in_default.ensures c.in_ok-order.ensures.items)
    ]
