-- Rides worked out by hand, from the bytes of a trace to the figure of the root.
use Rattle.std.specs.Prelude.{◌≡◌, ℕ, ◌/◌, ◌%◌, List, [], ◌∷◌, ◌++◌, length, pos, Ok}
use Rattle.std.specs.Float.{binary32}
use Rattle.std.specs.Float.Ieee.{of_int}
use Rattle.frame.specs.Crc.{crc_of}
use Rattle.frame.specs.Sources.{plain}
use Rattle.figures.specs.Float.{float}
use Rattle.figures.specs.Trail.{trail}
use Rattle.figures.specs.declared.float.Sums.{Sums}
use Rattle.layout.specs.declared.node.Node.{Node}
use Rattle.layout.specs.declared.node.Node.TheVariants.{Leaf, Fork}
use Rattle.evaluate.specs.Evaluates.{Outcome}

-- seven bytes and their check
abbrev pub checked_bytes : List ℕ → List ℕ
checked_bytes bs = bs ++ crc_of bs ∷ []

-- a trace of frames with these front speeds, rear wheels at rest and no flags
abbrev pub trace_of : List ℕ → List ℕ
trace_of [] = []
trace_of (front ∷ fronts) = checked_bytes (front / 256 ∷ front % 256 ∷ 0 ∷ 0 ∷ 0 ∷ 0 ∷ 0 ∷ []) ++ trace_of fronts

-- two leaves of one frame each, joined in this order
abbrev pub pair : ℕ → ℕ → List Node
pair left right = Leaf 0 1 ∷ Leaf 1 1 ∷ Fork left right ∷ []

-- three leaves of one frame each, joined as ((0 1) 2)
abbrev pub left_first : List Node
left_first = Leaf 0 1 ∷ Leaf 1 1 ∷ Leaf 2 1 ∷ Fork 1 2 ∷ Fork 4 3 ∷ []

-- the same, joined as (0 (1 2))
abbrev pub right_first : List Node
right_first = Leaf 0 1 ∷ Leaf 1 1 ∷ Leaf 2 1 ∷ Fork 2 3 ∷ Fork 1 4 ∷ []

-- a job, the front speeds of its trace, and the figure that it comes to
pub data Case : Type 0 where
  trail_of : List Node → List ℕ → ℕ → Case
  squares_of : List Node → List ℕ → ℕ → Case

-- the root's one outcome is that trail, or has that sum of squares
abbrev pub ComesOut : Case → Type 0
ComesOut (trail_of ns fronts figure) = Outcome ns (plain (trace_of fronts)) trail (length ns) (Ok figure)
ComesOut (squares_of ns fronts figure) =
    (s : Sums) × Outcome ns (plain (trace_of fronts)) float (length ns) (Ok s) × (s.squares ≡ of_int binary32 (pos figure))

-- the list
abbrev pub cases : List Case
cases =
    trail_of (pair 1 2) (5 ∷ 7 ∷ []) 162 ∷
    trail_of (pair 2 1) (5 ∷ 7 ∷ []) 222 ∷
    squares_of left_first (4096 ∷ 1 ∷ 1 ∷ []) 16777216 ∷
    squares_of right_first (4096 ∷ 1 ∷ 1 ∷ []) 16777218 ∷ []
