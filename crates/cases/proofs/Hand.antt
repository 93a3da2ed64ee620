-- The cases come out as written.
use Rattle.std.proofs.Common.{◌≡◌, ℕ, false, T, List, [], ◌∷◌, pos, Some, Ok, refl}
use lib.Ieee.{Float, fin, binary32, of_int, add, mul, sum, round, units, odd, size, span, climb}
use lib.Count.{count_trailing_zeros}
use Rattle.std.specs.List.{AllByRecursion}
use Rattle.frame.specs.Crc.{remainder}
use Rattle.frame.specs.Sources.{plain}
use Rattle.frame.specs.Speeds.{speeds}
use Rattle.figures.specs.Float.{float, floated, added}
use Rattle.figures.specs.Trail.{trail}
use Rattle.figures.specs.declared.float.Sums.{Sums}
use Rattle.frame.specs.Meaning.{Frames}
use Rattle.algebra.specs.Leaf.{leaf_outcome}
use Rattle.algebra.specs.Meaning.{Rules}
use Rattle.layout.specs.Shape.{nth}
use Rattle.layout.specs.declared.node.Node.{Node}
use Rattle.layout.specs.declared.node.Node.TheVariants.{Leaf}
use Rattle.layout.proofs.Places.{nth-is}
use Rattle.evaluate.specs.Evaluates.{Evaluates}
use Rattle.evaluate.specs.Evaluates.Evaluates.{at_leaf, at_fork}
use Rattle.evaluate.proofs.Outcomes.{only-outcome}
use Rattle.cases.specs.Cases.{pair, left_first, right_first, trace_of, cases, ComesOut}

-- a leaf of one frame
lone : {V : Type 0} {ns : List Node} {source : Frames} {rules : Rules V} (c first : ℕ) → Some (Leaf first 1) ≡ nth ns c
    → Evaluates ns source rules c (leaf_outcome source rules c first 1)
lone c first e = at_leaf (nth-is _ _ _ e)

trail-pair : Evaluates (pair 1 2) (plain (trace_of (5 ∷ 7 ∷ []))) trail 3 (Ok 162)
unfolding remainder
trail-pair = at_fork (nth-is _ _ _ refl) (lone 1 0 refl) (lone 2 1 refl)

trail-exchanged : Evaluates (pair 2 1) (plain (trace_of (5 ∷ 7 ∷ []))) trail 3 (Ok 222)
unfolding remainder
trail-exchanged = at_fork (nth-is _ _ _ refl) (lone 2 1 refl) (lone 1 0 refl)

-- the float sums of a frame with this front speed
abbrev of-front : (n : ℕ) → T (speeds n 0) → Sums
of-front n ok = floated (record { front = n; rear = 0; flags = 0; ok = ok })

abbrev left-sums : Sums
left-sums = added (added (of-front 4096 tt) (of-front 1 tt)) (of-front 1 tt)

abbrev right-sums : Sums
right-sums = added (of-front 4096 tt) (added (of-front 1 tt) (of-front 1 tt))

left-evaluates : Evaluates left_first (plain (trace_of (4096 ∷ 1 ∷ 1 ∷ []))) float 5 (Ok left-sums)
unfolding remainder
left-evaluates = at_fork {l = 4} {r = 3} (nth-is _ _ _ refl) (at_fork (nth-is _ _ _ refl) (lone 1 0 refl) (lone 2 1 refl)) (lone 3 2 refl)

right-evaluates : Evaluates right_first (plain (trace_of (4096 ∷ 1 ∷ 1 ∷ []))) float 5 (Ok right-sums)
unfolding remainder
right-evaluates = at_fork {l = 1} {r = 4} (nth-is _ _ _ refl) (lone 1 0 refl) (at_fork (nth-is _ _ _ refl) (lone 2 1 refl) (lone 3 2 refl))

-- 2 ^ k as a float
abbrev two^ : ℕ → Float
two^ k = fin false 1 (pos k)

speed-4096 : of_int binary32 (pos 4096) ≡ two^ 12
unfolding of_int round units odd size span climb count_trailing_zeros
speed-4096 = refl

speed-1 : of_int binary32 (pos 1) ≡ two^ 0
unfolding of_int round units odd size span climb count_trailing_zeros
speed-1 = refl

square-4096 : mul binary32 (two^ 12) (two^ 12) ≡ two^ 24
unfolding mul round units odd size span climb count_trailing_zeros
square-4096 = refl

square-1 : mul binary32 (two^ 0) (two^ 0) ≡ two^ 0
unfolding mul round units odd size span climb count_trailing_zeros
square-1 = refl

-- one is lost beside 2 ^ 24, and two are not
one-lost : add binary32 (two^ 24) (two^ 0) ≡ two^ 24
unfolding add sum round units odd size span climb count_trailing_zeros
one-lost = refl

two-ones : add binary32 (two^ 0) (two^ 0) ≡ two^ 1
unfolding add sum round units odd size span climb count_trailing_zeros
two-ones = refl

two-kept : add binary32 (two^ 24) (two^ 1) ≡ fin false 8388609 (pos 1)
unfolding add sum round units odd size span climb count_trailing_zeros
two-kept = refl

left-figure : of_int binary32 (pos 16777216) ≡ two^ 24
unfolding of_int round units odd size span climb count_trailing_zeros
left-figure = refl

right-figure : of_int binary32 (pos 16777218) ≡ fin false 8388609 (pos 1)
unfolding of_int round units odd size span climb count_trailing_zeros
right-figure = refl

left-squares : left-sums.squares ≡ of_int binary32 (pos 16777216)
left-squares = simp (speed-4096, speed-1, square-4096, square-1, one-lost, left-figure)

right-squares : right-sums.squares ≡ of_int binary32 (pos 16777218)
right-squares = simp (speed-4096, speed-1, square-4096, square-1, two-ones, two-kept, right-figure)

pub by_hand : AllByRecursion ComesOut cases
by_hand =
    (only-outcome trail-pair, (only-outcome trail-exchanged, ((left-sums, only-outcome left-evaluates, left-squares), ((right-sums, only-outcome right-evaluates, right-squares), tt))))
