-- One pass after another: the first refusal stands.
use Rattle.std.specs.Prelude.{Ok, Err, Result}

-- another value in place of what a pass gives
abbrev pub map_ok : {X Y E : Type 0} → (X → Y) → Result X E → Result Y E
map_ok f (Ok x) = Ok (f x)
map_ok f (Err e) = Err e

-- the next pass takes what the first gives
abbrev pub and_then : {X Y E : Type 0} → Result X E → (X → Result Y E) → Result Y E
and_then (Ok x) k = k x
and_then (Err e) k = Err e
