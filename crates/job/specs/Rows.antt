-- What a `Row` holds.
use Rattle.std.specs.Prelude.{List, vec_items}
use Rattle.job.specs.declared.row.Row.{Row}

-- its items, in order
abbrev pub items_of : {T : Type 0} → Row T → List T
items_of r = vec_items r.items
