use Rattle.std.proofs.Common.{◌-◌, length}
use Rattle.layout.specs.Layout.{count}
use Rattle.job.proofs.Walked.{Before}
use Rattle.job.proofs.walk.follow.Given as goal

abbrev pub invariant-loop-link : goal.invariant-loop-link
invariant-loop-link l = Before l.file.bytes.now l.order.items l.reached l.from l.link

abbrev pub decreases-loop-link : goal.decreases-loop-link
decreases-loop-link l = count l.file.bytes.now - length l.order.items
