use Rattle.std.proofs.Common.{rules}
use Rattle.layout.specs.Layout.{count}
use Rattle.layout.proofs.Chains.{chain-found, chain-short}
use Rattle.job.proofs.records.decode_all.Goals as goal

pub loop-c-init : goal.loop-c-init
loop-c-init c =
    let b = c.args.file.now.bytes.now in
    let all = (chain-found b (count b) c.args.order.now c.requires).reached.within in
    let short = chain-short b (count b) c.args.order.now c.requires in
    search rules
