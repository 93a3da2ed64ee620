-- The records of a job file.
use Rattle.std.specs.Prelude.{ℕ, List, Option, drop}
use Rattle.std.specs.Simd.{first_chunks}
use Rattle.layout.specs.Layout.{count}
use Rattle.layout.specs.Shape.{nth}

-- record x of the file b, where b has so many; records are indexed from 1
abbrev pub record_at : List ℕ → ℕ → Option (List ℕ)
record_at b x = nth (first_chunks 12 (count b) (drop 4 b)) x
