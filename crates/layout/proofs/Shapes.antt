-- The naming of the nodes gives a table its shape.
use Rattle.std.proofs.Common.{◌≡◌, ℕ, zero, suc, ◌+◌, ◌-◌, ◌<◌, ◌≤◌, ◌⊎◌, List, [], ◌∷◌, ◌++◌, length, get_or, take, set, replicate, Ok, sym, refl, ◌∙◌, subst, ⊎_elim, append_assoc, append-nil, arith}
use Rattle.std.proofs.lemmas.List.{length-set, length_push, length-replicate, length-take-le, get_or-replicate, get_or-take}
use Rattle.std.proofs.lemmas.Bool.{cases_eq, cases_lt, eq-eqb, ne_eqb, lt-ltb, le-ltb}
use Rattle.std.specs.List.{AllByRecursion}
use Rattle.layout.specs.declared.node.Node.{Node}
use Rattle.layout.specs.declared.node.Node.TheVariants.{Leaf, Fork}
use Rattle.layout.specs.declared.node.Parent.{Parent}
use Rattle.layout.specs.declared.node.Parent.TheVariants.{Root, LeftOf, RightOf}
use Rattle.layout.specs.declared.refusal.LoadRefusal.TheVariants.{Naming}
use Rattle.layout.specs.Naming.{taken, name, claims, named, complete, parents}
use Rattle.layout.specs.Shape.{Nth, Ranged, Shape}
use Rattle.layout.specs.Steps.{and_then}
use Rattle.layout.proofs.Steps.{same_ok, clash, both_ok}
use Rattle.layout.proofs.Places.{nth-same, nth-old, nth-new, nth-push, nth-set, nth-kept, nth-back}

-- fork f has named node c: qs has p for it, and is ps elsewhere
pub record Given (f c : ℕ) (p : Parent) (ps qs : List Parent) : Type 0 where
  pub low : 1 ≤ c
  pub lower : c < f
  pub free : Nth ps c Root
  pub new : Nth qs c p
  pub long : length qs ≡ length ps
  pub kept : (d : ℕ) (q : Parent) → Nth ps d q → (q ≡ Root → ⊥) → Nth qs d q
  pub back : (d : ℕ) (q : Parent) → Nth qs d q → ((d ≡ c) × (q ≡ p)) ⊎ Nth ps d q

-- a node that may be taken was free
was_free : (f c : ℕ) (p : Parent) (ps : List Parent) (q : Parent) (qs : List Parent) → taken f c p ps q ≡ Ok qs → (q ≡ Root) × (set ps (c - 1) p ≡ qs)
was_free f c p ps Root qs h = (refl, same_ok refl h)
was_free f c p ps (LeftOf g) qs h = absurd (clash h refl)
was_free f c p ps (RightOf g) qs h = absurd (clash h refl)

pub given : (f c : ℕ) (p : Parent) (ps qs : List Parent) → f ≤ length ps → name f c p ps ≡ Ok qs → Given f c p ps qs
given f c p ps qs in-range h =
    ⊎_elim
    (λ none. let e = eq-eqb c 0 none in absurd (clash {e = Naming f} h (rw e)))
    (λ some.
    ⊎_elim
    (λ lower.
    let e = ne_eqb c 0 some in
    let l = lt-ltb c f lower in
    let low : 1 ≤ c = omega arith in
    let t : taken f c p ps (get_or ps (c - 1) Root) ≡ Ok qs = sym (rw (e, l)) ∙ h in
    let w = was_free f c p ps (get_or ps (c - 1) Root) qs t in
    let free : Nth ps c Root = record { low = low; high = omega arith; is = sym w.0 } in
    subst (Given f c p ps) w.1 (record {
      low = low;
      lower = lower;
      free = free;
      new = nth-set ps c p low (omega arith);
      long = length-set ps (c - 1) p;
      kept = λ d q k other. nth-kept c p low (λ same. other (nth-same k (subst (λ i. Nth ps i Root) (sym same) free))) k;
      back = λ d q k. nth-back ps c p d q low (omega arith) k;
    }))
    (λ above. let e = ne_eqb c 0 some in let l = le-ltb c f above in absurd (clash {e = Naming f} h (rw (e, l))))
    (cases_lt c f))
    (cases_eq c 0)

-- the shape, as far as the nodes `done` have named their sides
pub record Part (done : List Node) (ps : List Parent) : Type 0 where
  pub forks : (f l r : ℕ) → Nth done f (Fork l r) → (l < f) × (r < f) × Nth ps l (LeftOf f) × Nth ps r (RightOf f)
  pub lefts : (c f : ℕ) → Nth ps c (LeftOf f) → (r : ℕ) × Nth done f (Fork c r)
  pub rights : (c f : ℕ) → Nth ps c (RightOf f) → (l : ℕ) × Nth done f (Fork l c)

pub left-root : (f : ℕ) → LeftOf f ≡ Root → ⊥
left-root f h = cc

pub right-root : (f : ℕ) → RightOf f ≡ Root → ⊥
right-root f h = cc

pub left-right : (f g : ℕ) → LeftOf f ≡ RightOf g → ⊥
left-right f g h = cc

leaf-fork : (a k l r : ℕ) → Fork l r ≡ Leaf a k → ⊥
leaf-fork a k l r h = cc

leaf-more : (done : List Node) (ps : List Parent) (a k : ℕ) → Part done ps → Part (done ++ Leaf a k ∷ []) ps
leaf-more done ps a k p = record {
  forks = λ f l r h. ⊎_elim (p.forks f l r) (λ e. absurd (leaf-fork a k l r e.1)) (nth-push h);
  lefts = λ c f h. let q = p.lefts c f h in (q.0, nth-old _ q.1);
  rights = λ c f h. let q = p.rights c f h in (q.0, nth-old _ q.1);
}

module _ (done : List Node) (f l r : ℕ) (ps qs rs : List Parent) (is : f ≡ length done + 1) (p : Part done ps) (x : Given f l (LeftOf f) ps qs) (y : Given f r (RightOf f) qs rs) where
  here : Nth (done ++ Fork l r ∷ []) f (Fork l r)
  here = subst (λ i. Nth (done ++ Fork l r ∷ []) i (Fork l r)) (sym is) (nth-new done (Fork l r))

  fork-forks : (g a b : ℕ) → Nth (done ++ Fork l r ∷ []) g (Fork a b) → (a < g) × (b < g) × Nth rs a (LeftOf g) × Nth rs b (RightOf g)
  fork-forks g a b h =
      ⊎_elim
      (λ old.
      let o = p.forks g a b old in (
        o.0,
        o.1,
        y.kept a (LeftOf g) (x.kept a (LeftOf g) o.2 (left-root g)) (left-root g),
        y.kept b (RightOf g) (x.kept b (RightOf g) o.3 (right-root g)) (right-root g),
      ))
      (λ e.
      let same : g ≡ f = e.0 ∙ sym is in
      let la : l ≡ a = cc e.1 in
      let rb : r ≡ b = cc e.1 in
      subst (λ g. (a < g) × (b < g) × Nth rs a (LeftOf g) × Nth rs b (RightOf g)) (sym same)
      (subst (λ a. (a < f) × (b < f) × Nth rs a (LeftOf f) × Nth rs b (RightOf f)) la
      (subst (λ b. (l < f) × (b < f) × Nth rs l (LeftOf f) × Nth rs b (RightOf f)) rb
      (x.lower, y.lower, y.kept l (LeftOf f) x.new (left-root f), y.new))))
      (nth-push h)

  fork-lefts : (c g : ℕ) → Nth rs c (LeftOf g) → (b : ℕ) × Nth (done ++ Fork l r ∷ []) g (Fork c b)
  fork-lefts c g h =
      ⊎_elim
      (λ e. absurd (left-right g f e.1))
      (λ k.
      ⊎_elim
      (λ e.
      let fg : f ≡ g = cc e.1 in
      (r, subst (λ g. Nth (done ++ Fork l r ∷ []) g (Fork c r)) fg (subst (λ c. Nth (done ++ Fork l r ∷ []) f (Fork c r)) (sym e.0) here)))
      (λ old. let q = p.lefts c g old in (q.0, nth-old _ q.1))
      (x.back c (LeftOf g) k))
      (y.back c (LeftOf g) h)

  fork-rights : (c g : ℕ) → Nth rs c (RightOf g) → (a : ℕ) × Nth (done ++ Fork l r ∷ []) g (Fork a c)
  fork-rights c g h =
      ⊎_elim
      (λ e.
      let fg : f ≡ g = cc e.1 in
      (l, subst (λ g. Nth (done ++ Fork l r ∷ []) g (Fork l c)) fg (subst (λ c. Nth (done ++ Fork l r ∷ []) f (Fork l c)) (sym e.0) here)))
      (λ k.
      ⊎_elim
      (λ e. absurd (left-right f g (sym e.1)))
      (λ old. let q = p.rights c g old in (q.0, nth-old _ q.1))
      (x.back c (RightOf g) k))
      (y.back c (RightOf g) h)

  fork-more : Part (done ++ Fork l r ∷ []) rs
  fork-more = record { forks = fork-forks; lefts = fork-lefts; rights = fork-rights }

-- a node that names its sides
pub one_more : (done : List Node) (n : Node) (ps qs : List Parent) → length done < length ps → Part done ps → claims (length done + 1) n ps ≡ Ok qs → Part (done ++ n ∷ []) qs × (length qs ≡ length ps)
one_more done (Leaf a k) ps qs room p h =
    let e : ps ≡ qs = same_ok refl h in
    subst (λ qs. Part (done ++ Leaf a k ∷ []) qs × (length qs ≡ length ps)) e (leaf-more done ps a k p, refl)
one_more done (Fork l r) ps qs room p h =
    let f = length done + 1 in
    let b = both_ok (name f l (LeftOf f) ps) (λ qs. name f r (RightOf f) qs) qs h in
    let x = given f l (LeftOf f) ps b.0 (omega arith) b.1 in
    let y = given f r (RightOf f) b.0 qs (omega (arith, x.long)) b.2 in
    (fork-more done f l r ps b.0 qs refl p x y, y.long ∙ x.long)

all_named : (done rest : List Node) (f : ℕ) (ps qs : List Parent) → f ≡ length done + 1 → length done + length rest ≤ length ps → Part done ps → named f ps rest ≡ Ok qs → Part (done ++ rest) qs × (length qs ≡ length ps)
all_named done [] f ps qs is room p h =
    let e : ps ≡ qs = same_ok refl h in
    subst (λ qs. Part (done ++ []) qs × (length qs ≡ length ps)) e (subst (λ ns. Part ns ps) (sym (append-nil done)) p, refl)
all_named done (n ∷ rest) f ps qs is room p h =
    let b = both_ok (claims f n ps) (λ qs. named (f + 1) qs rest) qs h in
    let m = one_more done n ps b.0 (omega arith) p (subst (λ f. claims f n ps ≡ Ok b.0) is b.1) in
    let r = all_named (done ++ n ∷ []) rest (f + 1) b.0 qs (omega (arith, length_push done n)) (omega (arith, length_push done n, m.1)) m.0 b.2 in
    (subst (λ ns. Part ns qs) (append_assoc done (n ∷ []) rest) r.0, r.1 ∙ m.1)

-- before any node is named
pub none_named : (n : ℕ) → Part [] (replicate n Root)
none_named n = record {
  forks = λ f l r h. absurd (omega arith);
  lefts = λ c f h. absurd (left-root f (h.is ∙ unnamed c (LeftOf f) h));
  rights = λ c f h. absurd (right-root f (h.is ∙ unnamed c (RightOf f) h));
}
  where
    unnamed : (c : ℕ) (p : Parent) → Nth (replicate n Root) c p → get_or (replicate n Root) (c - 1) p ≡ Root
    unnamed c p h = get_or-replicate n (c - 1) Root p (omega (arith, length-replicate n Root))

-- the parents that naming gives, from none named on
pub from_none : (ns : List Node) (ps : List Parent) → named 1 (replicate (length ns) Root) ns ≡ Ok ps → Part ns ps × (length ps ≡ length ns)
from_none ns ps h =
    let size = length-replicate (length ns) Root in
    let a = all_named [] ns 1 (replicate (length ns) Root) ps refl (omega (arith, size)) (none_named (length ns)) h in
    (a.0, a.1 ∙ size)

-- where the parents are complete, none of them is missing
complete-all : (c : ℕ) (ps : List Parent) (i : ℕ) (d : Parent) → complete c ps ≡ Ok tt → i < length ps → Root ≡ get_or ps i d → ⊥
complete-all c [] i d h lt e = omega arith
complete-all c (Root ∷ ps) i d h lt e = clash h refl
complete-all c (LeftOf f ∷ ps) zero d h lt e = left-root f (sym e)
complete-all c (LeftOf f ∷ ps) (suc i) d h lt e = complete-all (c + 1) ps i d h (omega arith) e
complete-all c (RightOf f ∷ ps) zero d h lt e = right-root f (sym e)
complete-all c (RightOf f ∷ ps) (suc i) d h lt e = complete-all (c + 1) ps i d h (omega arith) e

-- what the naming of a job's nodes gives
pub record Wired (ns : List Node) (ps : List Parent) : Type 0 where
  pub long : length ps ≡ length ns
  pub part : Part ns ps
  pub root : (c : ℕ) → Nth ps c Root → c ≡ length ns

pub wired : (ns : List Node) (ps : List Parent) → parents ns ≡ Ok ps → Wired ns ps
wired ns ps h =
    let b = both_ok (named 1 (replicate (length ns) Root) ns) (λ qs. and_then (complete 1 (take (length ns - 1) qs)) (λ _. Ok qs)) ps h in
    let k = both_ok (complete 1 (take (length ns - 1) b.0)) (λ _. Ok b.0) ps b.2 in
    let a = from_none ns b.0 b.1 in
    let long : length b.0 ≡ length ns = a.1 in
    subst (Wired ns) (same_ok refl k.2) (record {
      long = long;
      part = a.0;
      root = λ c r.
          ⊎_elim
          (λ low. absurd (complete-all 1 (take (length ns - 1) b.0) (c - 1) Root k.1
          (omega (arith, length-take-le (length ns - 1) b.0 (omega arith)))
          (r.is ∙ sym (get_or-take (length ns - 1) b.0 (c - 1) Root (omega arith)))))
          (λ high. omega arith)
          (cases_lt c (length ns));
    })

-- few nodes in range, and the parents that their naming gives
pub shaped : (ns : List Node) (ps : List Parent) → length ns ≤ 1024 → AllByRecursion Ranged ns → parents ns ≡ Ok ps → Shape ns ps
shaped ns ps few ranged h =
    let w = wired ns ps h in
    record { few = few; long = w.long; ranged = ranged; forks = w.part.forks; lefts = w.part.lefts; rights = w.part.rights; root = w.root }
