use Rattle.std.proofs.Common.{◌≡◌, ◌-◌, sym, ◌∙◌, subst, inl, arith}
use Rattle.std.specs.Slice.{IsItemAt}
use Rattle.layout.proofs.Places.{nth-none, lent-nth}
use Rattle.job.proofs.row.item.Goals as goal

pub returns-in_err-checked_sub : goal.returns-in_err-checked_sub
returns-in_err-checked_sub g c = c.from_residual.ensures ∙ sym (nth-none c.args.items.now c.args.c (inl (omega (arith, c.in_err-checked_sub.ensures, c.from.ensures))))

pub returns : goal.returns
returns g c =
    let at : c.in_ok-checked_sub.field-0 ≡ c.args.c - 1 = omega (arith, c.in_ok-checked_sub.ensures, c.from.ensures) in
    let lent = subst (λ i. IsItemAt c.args.items.now i c.get.result) at c.get.ensures.lookup in
    c.copied.ensures ∙ lent-nth c.args.items.now c.args.c c.get.result (omega (arith, c.in_ok-checked_sub.ensures, c.from.ensures)) lent
