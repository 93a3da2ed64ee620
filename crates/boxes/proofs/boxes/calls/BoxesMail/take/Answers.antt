use Rattle.std.proofs.Common.{refl}
use Rattle.boxes.proofs.Takes.{Taking, nothing, taking, waits}
use Rattle.boxes.proofs.boxes.calls.BoxesMail.take.Goals as goal
use Rattle.boxes.proofs.boxes.calls.BoxesMail.take.Goals.{After-remove}

pub returns-in_default : goal.returns-in_default
returns-in_default c =
    let none = nothing c.args.self.now c.args.receiver c.args.class c.in_ok-asked.asked c.in_ok-asked.ensures c.in_default.ensures in
    record {
      answer = simp (c.in_ok-asked.ensures.0, none.pick);
      effect = refl;
      newest = simp (c.in_ok-asked.ensures.0, none.newest);
      order = λ q l u. none.order q;
    }

pub remove-requires : goal.remove-requires
remove-requires c = waits c.args.self.now c.args.receiver c.args.class c.in_ok-asked.asked c.in_ok-asked.ensures _ c.in-Some.ensures

done : (c : After-remove) → Taking c.args.self.now c.args.receiver c.args.class c.remove.result c.remove.new.self
done c = taking c.args.self.now c.args.receiver c.args.class c.in_ok-asked.asked c.in_ok-asked.ensures _ c.in-Some.ensures _ _ c.remove.ensures.message c.remove.ensures.after

pub invariant_of-self : goal.invariant_of-self
invariant_of-self c = let taken = done (goal.at.invariant_of-self c).After-remove in assumption taken.boxed

pub returns : goal.returns
returns c =
    let taken = done (goal.at.returns c).After-remove in
    record {
      answer = rw taken.is (simp (c.in_ok-asked.ensures.0, taken.pick));
      effect = rw taken.is (taken.removed, refl);
      newest = rw taken.is (simp (c.in_ok-asked.ensures.0, taken.newest));
      order = taken.order;
    }
