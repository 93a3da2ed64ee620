use Rattle.std.proofs.Common.{◌≡◌, ◌+◌, length}
use Rattle.layout.specs.Naming.{named}
use Rattle.job.proofs.naming.claim_all.Given as goal

abbrev pub invariant-loop-f : goal.invariant-loop-f
invariant-loop-f l =
    (named l.f-iterator.a.start l.found l.f-iterator.b.rest.now ≡ named 1 l.initial.found l.nodes)
    × (l.f-iterator.a.start + length l.f-iterator.b.rest.now ≡ length l.nodes + 1)
    × (length l.found ≡ length l.nodes)
