-- The pass over the forks answers just the shapes of a job, and just the bad names.
use Rattle.std.proofs.Common.{◌≡◌, ℕ, ◌+◌, ◌-◌, ◌<◌, ◌≤◌, ◌⊎◌, List, [], ◌∷◌, ◌++◌, length, get_or, take, replicate, Ok, Err, sym, refl, ap, ◌∙◌, subst, inl, inr, ⊎_elim, append_assoc, arith}
use Rattle.std.proofs.lemmas.List.{length_push, length-replicate, length-take-le, get_or-take}
use Rattle.std.proofs.lemmas.Bool.{cases_eq, cases_lt, eq-eqb, ne_eqb, lt-ltb, le-ltb}
use Rattle.layout.specs.declared.node.Node.{Node}
use Rattle.layout.specs.declared.node.Node.TheVariants.{Leaf, Fork}
use Rattle.layout.specs.declared.node.Parent.{Parent}
use Rattle.layout.specs.declared.node.Parent.TheVariants.{Root, LeftOf, RightOf}
use Rattle.layout.specs.declared.refusal.LoadRefusal.{LoadRefusal}
use Rattle.layout.specs.declared.refusal.LoadRefusal.TheVariants.{Naming}
use Rattle.layout.specs.Naming.{taken, name, claims, named, complete, parents}
use Rattle.layout.specs.Refused.{Lowest, Names, Misnames, Unnamed, BadNaming}
use Rattle.layout.specs.Shape.{Nth, Shape}
use Rattle.layout.specs.Steps.{and_then}
use Rattle.layout.proofs.Firsts.{First, first_here, first_later}
use Rattle.layout.proofs.Lowest.{lowest-same}
use Rattle.layout.proofs.Places.{nth-same, nth-from, nth-front, nth-within, nth-middle}
use Rattle.layout.proofs.Shapes.{Given, given, Part, one_more, none_named, from_none, left-root, right-root, left-right, Wired, wired}
use Rattle.layout.proofs.Steps.{same-err, clash, cases-result, one-err}

-- fork g is the parent of node c
abbrev Owned : List Parent → ℕ → ℕ → Type 0
Owned qs c g = Nth qs c (LeftOf g) ⊎ Nth qs c (RightOf g)

owned-low : (qs : List Parent) (c g : ℕ) → Owned qs c g → 1 ≤ c
owned-low qs c g (inl h) = h.low
owned-low qs c g (inr h) = h.low

owned-same : (qs : List Parent) (c f g : ℕ) → Owned qs c f → Owned qs c g → f ≡ g
owned-same qs c f g (inl h) (inl k) = let e = nth-same h k in cc
owned-same qs c f g (inl h) (inr k) = absurd (left-right f g (nth-same h k))
owned-same qs c f g (inr h) (inl k) = absurd (left-right g f (nth-same k h))
owned-same qs c f g (inr h) (inr k) = let e = nth-same h k in cc

-- the parent of a node, if it has one
owner : (qs : List Parent) (c : ℕ) → 1 ≤ c → c ≤ length qs → Nth qs c Root ⊎ ((g : ℕ) × Owned qs c g)
owner qs c low high = split (get_or qs (c - 1) Root) refl
  where
    split : (q : Parent) → q ≡ get_or qs (c - 1) Root → Nth qs c Root ⊎ ((g : ℕ) × Owned qs c g)
    split Root e = inl (nth-from qs c Root Root low high e)
    split (LeftOf g) e = inr (g, inl (nth-from qs c Root (LeftOf g) low high e))
    split (RightOf g) e = inr (g, inr (nth-from qs c Root (RightOf g) low high e))

root-free : (qs : List Parent) (c g : ℕ) → Nth qs c Root → Owned qs c g → ⊥
root-free qs c g h (inl k) = left-root g (nth-same k h)
root-free qs c g h (inr k) = right-root g (nth-same k h)

-- the parents are those that name
module _ {done : List Node} {qs : List Parent} (part : Part done qs) where
  owned-names : (c g : ℕ) → Owned qs c g → Names done g c
  owned-names c g (inl h) = let q = part.lefts c g h in (q.0, inl q.1)
  owned-names c g (inr h) = let q = part.rights c g h in (q.0, inr q.1)

  names-owned : (c g : ℕ) → Names done g c → (c < g) × Owned qs c g
  names-owned c g (o, inl h) = let s = part.forks g c o h in (s.0, inl s.2)
  names-owned c g (o, inr h) = let s = part.forks g o c h in (s.1, inr s.3)

  -- a fork whose sides have it as their parent misnames none
  fair : (ns : List Node) (f : ℕ) → ((g : ℕ) (n : Node) → g ≤ f → Nth ns g n → Nth done g n) → Misnames ns f → ⊥
  fair ns f in-done (inr (c, h)) = let s = part.forks f c c (in-done f (Fork c c) (omega arith) h) in left-right f f (nth-same s.2 s.3)
  fair ns f in-done (inl (c, w, why)) = wrong why
    where
      old : (g : ℕ) → g ≤ f → Names ns g c → Names done g c
      old g le (o, inl h) = (o, inl (in-done g (Fork c o) le h))
      old g le (o, inr h) = (o, inr (in-done g (Fork o c) le h))

      wrong : (c ≡ 0) ⊎ ((f ≤ c) ⊎ ((g : ℕ) × (g < f) × Names ns g c)) → ⊥
      wrong (inl none) = omega (arith, owned-low qs c f (names-owned c f (old f (omega arith) w)).1)
      wrong (inr (inl above)) = omega (arith, (names-owned c f (old f (omega arith) w)).0)
      wrong (inr (inr (g, lower, v))) =
          omega (arith, owned-same qs c f g (names-owned c f (old f (omega arith) w)).1 (names-owned c g (old g (omega arith) v)).1)

-- where fork f may not name node c
abbrev Blocked : ℕ → ℕ → List Parent → Type 0
Blocked f c qs = (c ≡ 0) ⊎ ((f ≤ c) ⊎ ((g : ℕ) × Owned qs c g))

blocked : (f c : ℕ) (p : Parent) (qs : List Parent) (e : LoadRefusal) → f ≤ length qs → name f c p qs ≡ Err e → (e ≡ Naming f) × Blocked f c qs
blocked f c p qs e room h =
    ⊎_elim
    (λ none. let t = eq-eqb c 0 none in (same-err h (rw t), inl none))
    (λ some.
    ⊎_elim
    (λ lower.
    let t = ne_eqb c 0 some in
    let l = lt-ltb c f lower in
    let k : taken f c p qs (get_or qs (c - 1) Root) ≡ Err e = sym (rw (t, l)) ∙ h in
    by-owner k (owner qs c (omega arith) (omega arith)))
    (λ above. let t = ne_eqb c 0 some in let l = le-ltb c f above in (same-err h (rw (t, l)), inr (inl above)))
    (cases_lt c f))
    (cases_eq c 0)
  where
    taken-err : (q : Parent) → taken f c p qs q ≡ Err e → e ≡ Naming f
    taken-err Root k = absurd (clash refl k)
    taken-err (LeftOf g) k = same-err k refl
    taken-err (RightOf g) k = same-err k refl

    by-owner : taken f c p qs (get_or qs (c - 1) Root) ≡ Err e → Nth qs c Root ⊎ ((g : ℕ) × Owned qs c g) → (e ≡ Naming f) × Blocked f c qs
    by-owner k (inl free) = absurd (clash (ap (taken f c p qs) (sym free.is)) k)
    by-owner k (inr o) = (taken-err (get_or qs (c - 1) Root) k, inr (inr o))

-- a refusal while the nodes name their sides: `done` have, n is next
module _ (done rest : List Node) (qs : List Parent) (part : Part done qs) (room : length done < length qs) where
  abbrev f : ℕ
  f = length done + 1

  lower : (n : Node) (c g : ℕ) → Owned qs c g → (g : ℕ) × (g < f) × Names (done ++ n ∷ rest) g c
  lower n c g o = early (owned-names part c g o)
    where
      early : Names done g c → (g : ℕ) × (g < f) × Names (done ++ n ∷ rest) g c
      early (o, inl h) = (g, omega (arith, h.high), (o, inl (nth-front (n ∷ rest) h)))
      early (o, inr h) = (g, omega (arith, h.high), (o, inr (nth-front (n ∷ rest) h)))

  why : (n : Node) (c : ℕ) → Blocked f c qs → (c ≡ 0) ⊎ ((f ≤ c) ⊎ ((g : ℕ) × (g < f) × Names (done ++ n ∷ rest) g c))
  why n c (inl none) = inl none
  why n c (inr (inl above)) = inr (inl above)
  why n c (inr (inr (g, o))) = inr (inr (lower n c g o))

  refused-claim : (n : Node) (e : LoadRefusal) → claims f n qs ≡ Err e → (e ≡ Naming f) × Misnames (done ++ n ∷ rest) f
  refused-claim (Leaf a k) e h = absurd (clash refl h)
  refused-claim (Fork l r) e h = side (one-err (name f l (LeftOf f) qs) (λ qs. name f r (RightOf f) qs) e h)
    where
      here : Nth (done ++ Fork l r ∷ rest) f (Fork l r)
      here = nth-middle done (Fork l r) rest

      -- the right side, which the left has just taken or which was named before
      right : (ps : List Parent) → Given f l (LeftOf f) qs ps → Blocked f r ps → Misnames (done ++ Fork l r ∷ rest) f
      right ps x (inl none) = inl (r, (l, inr here), inl none)
      right ps x (inr (inl above)) = inl (r, (l, inr here), inr (inl above))
      right ps x (inr (inr (g, inl h))) =
          ⊎_elim
          (λ e. inr (l, subst (λ c. Nth (done ++ Fork l r ∷ rest) f (Fork l c)) e.0 here))
          (λ k. inl (r, (l, inr here), inr (inr (lower (Fork l r) r g (inl k)))))
          (x.back r (LeftOf g) h)
      right ps x (inr (inr (g, inr h))) =
          ⊎_elim
          (λ e. absurd (left-right f g (sym e.1)))
          (λ k. inl (r, (l, inr here), inr (inr (lower (Fork l r) r g (inr k)))))
          (x.back r (RightOf g) h)

      side : (name f l (LeftOf f) qs ≡ Err e) ⊎ ((ps : List Parent) × (name f l (LeftOf f) qs ≡ Ok ps) × (name f r (RightOf f) ps ≡ Err e)) → (e ≡ Naming f) × Misnames (done ++ Fork l r ∷ rest) f
      side (inl k) = let w = blocked f l (LeftOf f) qs e (omega arith) k in (w.0, inl (l, (r, inl here), why (Fork l r) l w.1))
      side (inr (ps, ok, k)) =
          let x = given f l (LeftOf f) qs ps (omega arith) ok in
          let w = blocked f r (RightOf f) ps e (omega (arith, x.long)) k in
          (w.0, right ps x w.1)

named-refused : (done rest : List Node) (f : ℕ) (qs : List Parent) (e : LoadRefusal) → f ≡ length done + 1 → length done + length rest ≤ length qs → Part done qs → named f qs rest ≡ Err e → (p : ℕ) × (e ≡ Naming p) × Lowest (Misnames (done ++ rest)) p
named-refused done [] f qs e is room part h = absurd (clash refl h)
named-refused done (n ∷ rest) f qs e is room part h =
    ⊎_elim
    (λ k.
    let w = refused-claim done rest qs part (omega arith) n e (subst (λ f. claims f n qs ≡ Err e) is k) in
    (length done + 1, w.0, (w.1, λ d lt. fair part (done ++ n ∷ rest) d (λ g x le. nth-within done (n ∷ rest) g x (omega arith)))))
    (λ k.
    let m = one_more done n qs k.0 (omega arith) part (subst (λ f. claims f n qs ≡ Ok k.0) is k.1) in
    subst (λ ns. (p : ℕ) × (e ≡ Naming p) × Lowest (Misnames ns) p) (append_assoc done (n ∷ []) rest)
    (named-refused (done ++ n ∷ []) rest (f + 1) k.0 e (omega (arith, length_push done n)) (omega (arith, length_push done n, m.1)) m.0 k.2))
    (one-err (claims f n qs) (λ qs. named (f + 1) qs rest) e h)

-- the first parent that is missing, of node c + i
abbrev Missing : ℕ → List Parent → LoadRefusal → Type 0
Missing c ps e = First (λ q. Root ≡ q → ⊥) (λ q. Root ≡ q) Root Naming c ps e

complete-refused : (c : ℕ) (ps : List Parent) (e : LoadRefusal) → complete c ps ≡ Err e → Missing c ps e
complete-refused c [] e h = absurd (clash refl h)
complete-refused c (Root ∷ ps) e h = first_here Root ps refl (same-err h refl)
complete-refused c (LeftOf f ∷ ps) e h = first_later (LeftOf f) ps (λ r. left-root f (sym r)) (complete-refused (c + 1) ps e h)
complete-refused c (RightOf f ∷ ps) e h = first_later (RightOf f) ps (λ r. right-root f (sym r)) (complete-refused (c + 1) ps e h)

-- all nodes have named their sides, and one is left without a name
module _ (ns : List Node) (qs : List Parent) (part : Part ns qs) (long : length qs ≡ length ns) (e : LoadRefusal) (m : Missing 1 (take (length ns - 1) qs) e) where
  below : length (take (length ns - 1) qs) ≡ length ns - 1
  below = length-take-le (length ns - 1) qs (omega arith)

  free : Nth qs (1 + m.i) Root
  free =
      let at : m.i ≡ 1 + m.i - 1 = omega arith in
      nth-from qs (1 + m.i) Root Root (omega arith) (omega (arith, below, m.high))
      (m.bad ∙ get_or-take (length ns - 1) qs m.i Root (omega (arith, below, m.high)) ∙ ap (λ j. get_or qs j Root) at)

  named-before : (d : ℕ) → d < 1 + m.i → Unnamed ns d → ⊥
  named-before d lt (low, high, none) =
      ⊎_elim
      (λ r. m.before (d - 1) (omega arith) (r.is ∙ sym (get_or-take (length ns - 1) qs (d - 1) Root (omega arith))))
      (λ o. none o.0 (owned-names part d o.0 o.1))
      (owner qs d low (omega arith))

  unnamed-left : BadNaming ns (1 + m.i)
  unnamed-left = inr (
    λ f. fair part ns f (λ g n le h. h),
    (
      (omega arith, omega (arith, below, m.high), λ f w. root-free qs (1 + m.i) f free (names-owned part (1 + m.i) f w).1),
      named-before,
    ),
  )

pub parents-refused : (ns : List Node) (e : LoadRefusal) → parents ns ≡ Err e → (p : ℕ) × (e ≡ Naming p) × BadNaming ns p
parents-refused ns e h =
    ⊎_elim
    (λ k. let w = named-refused [] ns 1 (replicate (length ns) Root) e refl (omega (arith, length-replicate (length ns) Root)) (none_named (length ns)) k in (w.0, w.1, inl w.2))
    (λ k.
    let a = from_none ns k.0 k.1 in
    ⊎_elim
    (λ c. let m = complete-refused 1 (take (length ns - 1) k.0) e c in (1 + m.i, m.is, unnamed-left ns k.0 a.0 a.1 e m))
    (λ c. absurd (clash refl c.2))
    (one-err (complete 1 (take (length ns - 1) k.0)) (λ _. Ok k.0) e k.2))
    (one-err (named 1 (replicate (length ns) Root) ns) (λ qs. and_then (complete 1 (take (length ns - 1) qs)) (λ _. Ok qs)) e h)

-- the nodes of a job name well
well-named : (ns : List Node) (ps : List Parent) → Wired ns ps → (p : ℕ) → BadNaming ns p → ⊥
well-named ns ps w p (inl l) = fair w.part ns p (λ g n le h. h) l.0
well-named ns ps w p (inr (fairly, ((low, high, none), before))) =
    ⊎_elim
    (λ r. omega (arith, w.root p r))
    (λ o. none o.0 (owned-names w.part p o.0 o.1))
    (owner ps p low (omega (arith, w.long)))

one_place : (ns : List Node) (p q : ℕ) → BadNaming ns p → BadNaming ns q → p ≡ q
one_place ns p q (inl l) (inl k) = lowest-same (Misnames ns) p q l k
one_place ns p q (inl l) (inr k) = absurd (k.0 p l.0)
one_place ns p q (inr l) (inl k) = absurd (l.0 q k.0)
one_place ns p q (inr l) (inr k) = lowest-same (Unnamed ns) p q l.1 k.1

pub parents-refuses : (ns : List Node) (p : ℕ) → BadNaming ns p → parents ns ≡ Err (Naming p)
parents-refuses ns p bad =
    ⊎_elim
    (λ k. absurd (well-named ns k.0 (wired ns k.0 k.1) p bad))
    (λ k. let w = parents-refused ns k.0 k.1 in k.1 ∙ ap Err w.1 ∙ ap (λ p. Err (Naming p)) (one_place ns w.0 p w.2 bad))
    (cases-result (parents ns))

pub parents-found : (ns : List Node) (ps : List Parent) → Shape ns ps → (out : List Parent) × (parents ns ≡ Ok out)
parents-found ns ps s =
    ⊎_elim
    (λ k. k)
    (λ k. let w = parents-refused ns k.0 k.1 in absurd (well-named ns ps shaped w.0 w.2))
    (cases-result (parents ns))
  where
    shaped : Wired ns ps
    shaped = record { long = s.long; part = record { forks = s.forks; lefts = s.lefts; rights = s.rights }; root = s.root }
