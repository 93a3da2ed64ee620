use Rattle.std.proofs.Common.{ℕ, ◌<◌, ◌≡◌, get_or, None, rules}
use Rattle.std.proofs.lemmas.List.FromFn.{fill_by_all}
use Rattle.boxes.specs.Inner.{first_link}
use Rattle.boxes.proofs.boxes.pool.Pool.new.Goals as goal

pub returns : goal.returns
returns c =
    let made = c.from_fn.ensures.items in
    let each : (k : ℕ) → k < 81 → get_or c.from_fn.result k None ≡ first_link k =
    λ k h. let call = (made.at k None h).2.met in search (rules, call) in
    rw (fill_by_all first_link c.from_fn.result 81 None made.long each)
