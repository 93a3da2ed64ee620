use Rattle.std.proofs.Common.{refl, rules}
use Rattle.mail.specs.Messages.{message}
use Rattle.boxes.proofs.Posts.{Posting, posted}
use Rattle.boxes.proofs.boxes.calls.BoxesMail.post.Goals as goal
use Rattle.boxes.proofs.boxes.calls.BoxesMail.post.Goals.{After-put}

done : (c : After-put) → Posting c.args.self.now (message c.args.receiver c.args.sender c.args.class c.args.node) c.put.new.self
done c = posted c.args.self.now c.args.receiver c.args.sender c.args.class c.args.node _ _ c.in_ok-message.ensures c.if-is_full.ensures c.put.ensures

pub invariant_of-self : goal.invariant_of-self
invariant_of-self c = let posted = done (goal.at.invariant_of-self c).After-put in assumption posted.boxed

pub returns : goal.returns
returns c = let posted = done (goal.at.returns c).After-put in record { effect = (posted.same, refl); full = search rules; order = posted.order }
