-- What stands on the sides of a node, and that all nodes stand on those of the root.
use Rattle.std.proofs.Common.{◌≡◌, ℕ, zero, suc, ◌+◌, ◌-◌, ◌<◌, ◌≤◌, List, length, IsSome, refl, sym, subst, arith}
use Rattle.std.proofs.ByRecursion.{All-get_or}
use Rattle.layout.specs.Shape.{Nth, nth, Ranged, Shape}
use Rattle.layout.specs.declared.node.Node.{Node}
use Rattle.layout.specs.declared.node.Node.TheVariants.{Leaf, Fork}
use Rattle.layout.specs.declared.node.Parent.{Parent}
use Rattle.layout.specs.declared.node.Parent.TheVariants.{Root, LeftOf, RightOf}
use Rattle.layout.proofs.Places.{nth-some}
use Rattle.evaluate.specs.Within.{Within, itself, on_left, on_right}
use Rattle.evaluate.proofs.Outcomes.{nth-any}

-- what stands within a node within c stands within c
pub within_on : {ns : List Node} {c d e : ℕ} → Within ns c d → Within ns d e → Within ns c e
within_on itself k = k
within_on (on_left f h) k = on_left f (within_on h k)
within_on (on_right f h) k = on_right f (within_on h k)

module _ {ns : List Node} {ps : List Parent} (shape : Shape ns ps) where
  abbrev Down-to : ℕ → Type 0
  Down-to k = (d : ℕ) → length ns ≤ d + k → 1 ≤ d → d ≤ length ns → Within ns (length ns) d

  the-root : (d : ℕ) → d ≡ length ns → Within ns (length ns) d
  the-root d e = rw e itself

  one_less : (k d : ℕ) → Down-to k → length ns ≤ d + suc k → (p : Parent) → Nth ps d p → Within ns (length ns) d
  one_less k d higher far Root h = the-root d (shape.root d h)
  one_less k d higher far (LeftOf f) h =
      let n = (shape.lefts d f h).1 in
      let s = shape.forks f d _ n in
      within_on (higher f (omega (arith, s.0)) n.low n.high) (on_left n itself)
  one_less k d higher far (RightOf f) h =
      let n = (shape.rights d f h).1 in
      let s = shape.forks f _ d n in
      within_on (higher f (omega (arith, s.1)) n.low n.high) (on_right n itself)

  down_to : (k : ℕ) → Down-to k
  down_to zero d far low high = the-root d (omega arith)
  down_to (suc k) d far low high =
      let h = nth-any ps d low (omega (arith, shape.long)) in one_less k d (down_to k) far h.0 h.1

  -- every node is within the root
  pub within-root : (d : ℕ) → 1 ≤ d → d ≤ length ns → Within ns (length ns) d
  within-root d low high = down_to (length ns) d (omega arith) low high

module _ {ns : List Node} {ps : List Parent} (shape : Shape ns ps) where
  -- the frames of a leaf are 1 to 256, with numbers of 32 bits
  pub leaf-ranged : {c first count : ℕ} → Nth ns c (Leaf first count) → Ranged (Leaf first count)
  leaf-ranged {c} {first} {count} h = subst Ranged (sym h.is) (All-get_or Ranged ns (c - 1) (Leaf first count) (omega arith) shape.ranged)

  -- the sides of a fork are lower nodes
  pub fork-sided : {c l r : ℕ} → Nth ns c (Fork l r) → ((1 ≤ l) × (l < c)) × ((1 ≤ r) × (r < c))
  fork-sided h = let s = shape.forks _ _ _ h in ((s.2.low, s.0), (s.3.low, s.1))

-- a number up to the length is found
pub found : (ns : List Node) (c : ℕ) → 1 ≤ c → c ≤ length ns → IsSome (nth ns c)
found ns c low high = rw (nth-some (nth-any ns c low high).1) refl
