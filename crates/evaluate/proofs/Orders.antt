-- A job has one left-to-right order, and every node is in it.
use Rattle.std.proofs.Common.{◌≡◌, ℕ, ◌≤◌, List, [], ◌∷◌, ◌++◌, length, refl, arith}
use Rattle.std.specs.List.{ContainsAt}
use Rattle.std.proofs.ByRecursion.{has_append_left, has_append_right, has_push}
use Rattle.std.proofs.lemmas.List.{append_assoc}
use Rattle.layout.specs.Shape.{Nth, Shape}
use Rattle.layout.specs.declared.node.Node.{Node}
use Rattle.layout.specs.declared.node.Node.TheVariants.{Leaf, Fork}
use Rattle.layout.specs.declared.node.Parent.{Parent}
use Rattle.layout.proofs.Places.{nth-same}
use Rattle.evaluate.specs.Order.{Order, leaf_alone, fork_last, Appended, Ordered}
use Rattle.evaluate.specs.Within.{Within, itself, on_left, on_right}
use Rattle.evaluate.proofs.Sides.{within-root}

module _ {ns : List Node} where
  -- a node's order is one
  pub one-order : {c : ℕ} {xs ys : List ℕ} → Order ns c xs → Order ns c ys → xs ≡ ys
  one-order (leaf_alone h) (leaf_alone k) = refl
  one-order (leaf_alone h) (fork_last k m n) = cc (nth-same h k)
  one-order (fork_last h u v) (leaf_alone k) = cc (nth-same h k)
  one-order (fork_last {l = l} {r = r} h u v) (fork_last {l = l'} {r = r'} k m n) =
      let p : l' ≡ l = cc (nth-same h k) in
      let q : r' ≡ r = cc (nth-same h k) in
      cc (one-order u (rw p at m), one-order v (rw q at n))

  -- what stands within a node is in its order
  pub in_order : {c d : ℕ} {xs : List ℕ} → Order ns c xs → Within ns c d → ContainsAt xs d
  in_order {c} (leaf_alone h) itself = has_push [] c
  in_order (leaf_alone h) (on_left k w) = absurd (cc (nth-same h k))
  in_order (leaf_alone h) (on_right k w) = absurd (cc (nth-same h k))
  in_order {c} (fork_last {xs = xs} {ys = ys} h u v) itself = has_push (xs ++ ys) c
  in_order {c} {d} (fork_last {l = l} {xs = xs} {ys = ys} h u v) (on_left {l = l'} k w) =
      let p : l' ≡ l = cc (nth-same h k) in
      has_append_left (xs ++ ys) (c ∷ []) d (has_append_left xs ys d (in_order u (rw p at w)))
  in_order {c} {d} (fork_last {r = r} {xs = xs} {ys = ys} h u v) (on_right {r = r'} k w) =
      let q : r' ≡ r = cc (nth-same h k) in
      has_append_left (xs ++ ys) (c ∷ []) d (has_append_right xs ys d (in_order v (rw q at w)))

  order-low : {c : ℕ} {xs : List ℕ} → Order ns c xs → 1 ≤ c
  order-low (leaf_alone h) = h.low
  order-low (fork_last h u v) = h.low

  -- a leaf is appended
  pub leaf-appended : {c first count : ℕ} (before after : List ℕ) → Nth ns c (Leaf first count) → after ≡ before ++ c ∷ [] → Appended ns c before after
  leaf-appended {c} {first} {count} before after h e = record { added = c ∷ []; order = leaf_alone h; at_end = e }

  -- a fork is appended after its sides
  pub fork-appended : {c l r : ℕ} {before one two after : List ℕ} → Nth ns c (Fork l r) → Appended ns l before one → Appended ns r one two
      → after ≡ two ++ c ∷ [] → Appended ns c before after
  fork-appended {c} {l} {r} {before} {one} {two} {after} h a b last =
      record {
        added = (a.added ++ b.added) ++ c ∷ [];
        order = fork_last h a.order b.order;
        at_end = simp (last, b.at_end, a.at_end, append_assoc);
      }

  -- no nodes
  pub empty-ordered : {xs : List ℕ} → length ns ≡ 0 → xs ≡ [] → Ordered ns xs
  empty-ordered none e = record {
    empty = λ _. e;
    order = λ some. absurd (omega arith);
    only = λ ys o. absurd (omega (arith, order-low o));
    every = λ c low high. absurd (omega arith);
  }

  -- the root's order is that of all nodes
  pub root-ordered : {ps : List Parent} {after : List ℕ} → Shape ns ps → Appended ns (length ns) [] after → Ordered ns after
  root-ordered {ps} {after} shape a =
      let o : Order ns (length ns) after = rw (← a.at_end) at a.order in
      record {
        empty = λ z. absurd (omega (arith, order-low o));
        order = λ _. o;
        only = λ ys k. one-order k o;
        every = λ c low high. in_order o (within-root shape c low high);
      }
