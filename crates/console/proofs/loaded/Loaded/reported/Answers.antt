use Rattle.std.proofs.Common.{◌∙◌}
use Rattle.std.proofs.lemmas.List.{with_items_is}
use Rattle.std.proofs.lemmas.Result.{IfOk-weaker}
use Rattle.console.proofs.loaded.Loaded.reported.Goals as goal

pub returns : goal.returns
returns g c =
    let filled = rw c.unwrap.ensures at c.evaluate.ensures.cells in
    let cells = c.deref-2.ensures.value ∙ with_items_is c.in_ok-cells.cells c.evaluate.new.cells (filled.size ∙ c.deref_mut.ensures.len) in
    IfOk-weaker c.report.result _ _ (λ s text. record {
      order = _;
      cells = _;
      ordered = rw (← c.deref.ensures.value) at c.in_ok-order.ensures;
      held = rw (← cells) at filled.all;
      text_is = rw c.count.ensures at text;
    }) c.report.ensures
