use Rattle.std.proofs.Common.{arith, rules}
use Rattle.job.proofs.Walked.{before-first, refused, more, kept}
use Rattle.job.proofs.walk.follow.Goals as goal

pub loop-link-init : goal.loop-link-init
loop-link-init c = before-first c.args.file.now.sized.counted.1 c.new-order.ensures c.first-link.ensures c.if-is_none.ensures

pub returns-in_err-record : goal.returns-in_err-record
returns-in_err-record c =
    let e = refused c.loop-link.invariant c.in-Some.is c.reach.ensures.value (search rules) in
    search rules

pub push-requires : goal.push-requires
push-requires c =
    let m = more c.loop-link.invariant c.in-Some.is c.reach.ensures.value {q = c.in_ok-record.record} (search rules) in
    (omega arith, omega (arith, m, c.args.file.now.sized.counted.1))

pub loop-link-smaller : goal.loop-link-smaller
loop-link-smaller c =
    let m = more c.loop-link.invariant c.in-Some.is c.reach.ensures.value {q = c.in_ok-record.record} (search rules) in
    omega (arith, c.push.ensures.len, m)

pub loop-link-preserved : goal.loop-link-preserved
loop-link-preserved c =
    kept c.loop-link.invariant c.in-Some.is c.reach.ensures.value {q = c.in_ok-record.record} (search rules) c.reach.ensures.marks c.push.ensures.items c.next-link.ensures
