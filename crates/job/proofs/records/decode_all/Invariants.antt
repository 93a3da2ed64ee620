use Rattle.std.proofs.Common.{◌≡◌, ◌+◌, ◌≤◌, [], length}
use Rattle.std.specs.List.{AllByRecursion}
use Rattle.layout.specs.Follows.{Index}
use Rattle.layout.specs.Layout.{count}
use Rattle.layout.specs.Records.{records}
use Rattle.job.specs.Rows.{items_of}
use Rattle.job.proofs.records.decode_all.Given as goal

abbrev pub invariant-loop-c : goal.invariant-loop-c
invariant-loop-c l =
    (records l.file.bytes.now (items_of l.nodes) l.c-iterator.b.rest.now ≡ records l.file.bytes.now [] l.order)
    × (l.c-iterator.a.start ≡ length (items_of l.nodes) + 1)
    × (length (items_of l.nodes) + length l.c-iterator.b.rest.now ≤ 1024)
    × AllByRecursion (Index (count l.file.bytes.now)) l.c-iterator.b.rest.now
