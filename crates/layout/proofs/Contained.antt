-- The pass over the records reads just the nodes that the records hold, and refuses just the first that holds none.
use Rattle.std.proofs.Common.{◌≡◌, ℕ, zero, suc, ◌+◌, ◌-◌, ◌<◌, Bool, true, false, cond, eqb, leb, List, [], ◌∷◌, ◌++◌, length, get_or, Some, None, Ok, Err, Option, sym, refl, ap, ◌∙◌, subst, ⊎_elim, append_assoc, append-nil, arith}
use Rattle.std.proofs.lemmas.List.{length_push, get_or_default}
use Rattle.std.proofs.lemmas.Bool.{cases_Bool, eq-eqb, eqb-true, ne_eqb, leb-true, le-leb, cond-true, cond-false}
use Rattle.std.specs.List.{AllByRecursion}
use Rattle.layout.specs.declared.node.Node.{Node}
use Rattle.layout.specs.declared.node.Node.TheVariants.{Leaf, Fork}
use Rattle.layout.specs.declared.refusal.LoadRefusal.{LoadRefusal}
use Rattle.layout.specs.declared.refusal.LoadRefusal.TheVariants.{Content}
use Rattle.layout.specs.Layout.{short_at, word_at, start, leaf_at, fork_at, node_at}
use Rattle.layout.specs.Records.{added, records}
use Rattle.layout.specs.Follows.{Holds, Contents}
use Rattle.layout.specs.Shape.{Nth, Ranged}
use Rattle.layout.specs.Steps.{and_then}
use Rattle.layout.specs.Refused.{Lowest, Unreadable}
use Rattle.layout.proofs.Firsts.{First, first_here, first_later}
use Rattle.layout.proofs.Lowest.{lowest-same}
use Rattle.layout.proofs.Places.{nth-from}
use Rattle.layout.proofs.Steps.{same_ok, same-err, clash, cases-result, both_ok}

-- where a test guards a value, and there is one
guarded : {X : Type 0} (t : Bool) (o : Option X) (x : X) → cond t o None ≡ Some x → (t ≡ true) × (o ≡ Some x)
guarded true o x h = (refl, h)
guarded false o x h = absurd cc

module _ (b : List ℕ) (i : ℕ) where
  abbrev Read : Node → Type 0
  Read n = Holds b i n × Ranged n

  leaf-read : (n : Node) → get_or b i 0 ≡ 1 → get_or b (i + 1) 0 ≡ 0 → leaf_at b i ≡ Some n → Read n
  leaf-read n kind rest h =
      let p = guarded (leb 1 (short_at b (i + 8))) _ n h in
      let q = guarded (leb (short_at b (i + 8)) 256) _ n p.1 in
      let r = guarded (leb (word_at b (i + 4) + short_at b (i + 8)) 4294967296) _ n q.1 in
      let s = guarded (eqb (short_at b (i + 10)) 0) _ n r.1 in
      let e : Leaf (word_at b (i + 4)) (short_at b (i + 8)) ≡ n = cc s.1 in
      subst Read e ((kind, rest, refl, refl, eqb-true _ _ s.0), (leb-true _ _ p.0, leb-true _ _ q.0, leb-true _ _ r.0))

  fork-read : (n : Node) → get_or b i 0 ≡ 2 → get_or b (i + 1) 0 ≡ 0 → fork_at b i ≡ Some n → Read n
  fork-read n kind rest h =
      let s = guarded (eqb (word_at b (i + 8)) 0) _ n h in
      let e : Fork (short_at b (i + 4)) (short_at b (i + 6)) ≡ n = cc s.1 in
      subst Read e ((kind, rest, refl, refl, eqb-true _ _ s.0), tt)

  by_kind : (n : Node) → get_or b (i + 1) 0 ≡ 0 → cond (eqb (get_or b i 0) 1) (leaf_at b i) (cond (eqb (get_or b i 0) 2) (fork_at b i) None) ≡ Some n → Read n
  by_kind n rest h =
      ⊎_elim
      (λ kind. leaf-read n (eqb-true _ _ kind) rest (subst (λ t. cond t (leaf_at b i) (cond (eqb (get_or b i 0) 2) (fork_at b i) None) ≡ Some n) kind h))
      (λ other.
      let k = guarded (eqb (get_or b i 0) 2) _ n (subst (λ t. cond t (leaf_at b i) (cond (eqb (get_or b i 0) 2) (fork_at b i) None) ≡ Some n) other h) in
      fork-read n (eqb-true _ _ k.0) rest k.1)
      (cases_Bool (eqb (get_or b i 0) 1))

  pub node-read : (n : Node) → node_at b i ≡ Some n → Read n
  node-read n h = let p = guarded (eqb (get_or b (i + 1) 0) 0) _ n h in by_kind n (eqb-true _ _ p.0) p.1

  pub node-reads : (n : Node) → Read n → node_at b i ≡ Some n
  node-reads (Leaf a k) r =
      cond-true _ _ _ (eq-eqb (get_or b (i + 1) 0) 0 r.0.1) ∙ cond-true _ _ _ (eq-eqb (get_or b i 0) 1 r.0.0)
      ∙ cond-true _ _ _ (le-leb 1 (short_at b (i + 8)) (omega (arith, r.0.3, r.1.0)))
      ∙ cond-true _ _ _ (le-leb (short_at b (i + 8)) 256 (omega (arith, r.0.3, r.1.1)))
      ∙ cond-true _ _ _ (le-leb (word_at b (i + 4) + short_at b (i + 8)) 4294967296 (omega (arith, r.0.2, r.0.3, r.1.2)))
      ∙ cond-true _ _ _ (eq-eqb (short_at b (i + 10)) 0 r.0.4)
      ∙ ap (λ a. Some (Leaf a (short_at b (i + 8)))) (sym r.0.2) ∙ ap (λ k. Some (Leaf a k)) (sym r.0.3)
  node-reads (Fork x y) r =
      cond-true _ _ _ (eq-eqb (get_or b (i + 1) 0) 0 r.0.1) ∙ cond-false _ _ _ (ne_eqb (get_or b i 0) 1 (λ e. omega (arith, r.0.0)))
      ∙ cond-true _ _ _ (eq-eqb (get_or b i 0) 2 r.0.0) ∙ cond-true _ _ _ (eq-eqb (word_at b (i + 8)) 0 r.0.4)
      ∙ ap (λ x. Some (Fork x (short_at b (i + 6)))) (sym r.0.2) ∙ ap (λ y. Some (Fork x y)) (sym r.0.3)

-- the nodes that were read after ns
pub record Reads (b : List ℕ) (ns : List Node) (xs : List ℕ) (out : List Node) : Type 0 where
  pub more : List Node
  pub joined : out ≡ ns ++ more
  pub holds : Contents b xs more
  pub ranged : AllByRecursion Ranged more
  pub long : length more ≡ length xs

added-ok : (ns : List Node) (o : Option Node) (out : List Node) → added ns o ≡ Ok out → (n : Node) × (o ≡ Some n) × (out ≡ ns ++ n ∷ [])
added-ok ns None out h = absurd (clash h refl)
added-ok ns (Some n) out h = (n, refl, same_ok h refl)

module _ (b : List ℕ) where
  pub all_read : (ns : List Node) (xs : List ℕ) (out : List Node) → records b ns xs ≡ Ok out → Reads b ns xs out
  all_read ns [] out h = record { more = []; joined = same_ok h refl ∙ sym (append-nil ns); holds = tt; ranged = tt; long = refl }
  all_read ns (x ∷ xs) out h =
      let p = both_ok (added ns (node_at b (start x))) (λ more. records b more xs) out h in
      let q = added-ok ns (node_at b (start x)) p.0 p.1 in
      let r = node-read b (start x) q.0 q.1 in
      let s = all_read p.0 xs out p.2 in
      record {
        more = q.0 ∷ s.more;
        joined = s.joined ∙ ap (λ l. l ++ s.more) q.2 ∙ append_assoc ns (q.0 ∷ []) s.more;
        holds = (r.0, s.holds);
        ranged = (r.1, s.ranged);
        long = ap suc s.long;
      }

  pub records-ranged : (xs : List ℕ) (ns : List Node) → Ok ns ≡ records b [] xs → AllByRecursion Ranged ns
  records-ranged xs ns h = let r = all_read [] xs ns (sym h) in subst (AllByRecursion Ranged) (sym r.joined) r.ranged

  pub all-reads : (ns : List Node) (xs : List ℕ) (more : List Node) → Contents b xs more → AllByRecursion Ranged more → records b ns xs ≡ Ok (ns ++ more)
  all-reads ns [] [] h k = ap Ok (sym (append-nil ns))
  all-reads ns [] (n ∷ more) h k = absurd h
  all-reads ns (x ∷ xs) [] h k = absurd h
  all-reads ns (x ∷ xs) (n ∷ more) h k =
      ap (λ o. and_then (added ns o) (λ more. records b more xs)) (node-reads b (start x) n (h.0, k.0))
      ∙ all-reads (ns ++ n ∷ []) xs more h.1 k.1 ∙ ap Ok (append_assoc ns (n ∷ []) more)

  -- what the record at a place of the chain holds
  held_at : (xs : List ℕ) (ns : List Node) (i : ℕ) → Contents b xs ns → AllByRecursion Ranged ns → i < length xs → (n : Node) × Holds b (start (get_or xs i 0)) n × Ranged n
  held_at [] ns i h k lt = absurd (omega arith)
  held_at (x ∷ xs) [] i h k lt = absurd h
  held_at (x ∷ xs) (n ∷ ns) zero h k lt = (n, h.0, k.0)
  held_at (x ∷ xs) (n ∷ ns) (suc i) h k lt = held_at xs ns i h.1 k.1 (omega arith)

  not-unreadable : (xs : List ℕ) (c : ℕ) → ((n : Node) × Holds b (start (get_or xs (c - 1) 0)) n × Ranged n) → Unreadable b xs c → ⊥
  not-unreadable xs c (n, h, k) (x, at, none) =
      let same : get_or xs (c - 1) 0 ≡ x = get_or_default xs (c - 1) 0 x (omega (arith, at.low, at.high)) ∙ sym at.is in
      none n (subst (λ x. Holds b (start x) n) same h) k

  -- the first record that cannot be read, of node c + i
  abbrev Stopped : ℕ → List ℕ → LoadRefusal → Type 0
  Stopped c xs e = First (λ x. (n : Node) × (node_at b (start x) ≡ Some n)) (λ x. node_at b (start x) ≡ None) 0 Content c xs e

  stopped-at : (ns : List Node) (x : ℕ) (xs : List ℕ) (e : LoadRefusal) → ((n : Node) → records b (ns ++ n ∷ []) xs ≡ Err e → Stopped (length (ns ++ n ∷ []) + 1) xs e) → (o : Option Node) → node_at b (start x) ≡ o → and_then (added ns o) (λ more. records b more xs) ≡ Err e → Stopped (length ns + 1) (x ∷ xs) e
  stopped-at ns x xs e rest None is h = first_here x xs is (same-err h refl)
  stopped-at ns x xs e rest (Some n) is h = first_later x xs (n, is) (subst (λ k. Stopped (k + 1) xs e) (length_push ns n) (rest n h))

  stopped : (ns : List Node) (xs : List ℕ) (e : LoadRefusal) → records b ns xs ≡ Err e → Stopped (length ns + 1) xs e
  stopped ns [] e h = absurd (clash refl h)
  stopped ns (x ∷ xs) e h = stopped-at ns x xs e (λ n. stopped (ns ++ n ∷ []) xs e) (node_at b (start x)) refl h

  pub records-refused : (xs : List ℕ) (e : LoadRefusal) → records b [] xs ≡ Err e → (c : ℕ) × (e ≡ Content c) × Lowest (Unreadable b xs) c
  records-refused xs e h = (1 + s.i, s.is, ((get_or xs s.i 0, here, none), before))
    where
      s : Stopped 1 xs e
      s = stopped [] xs e h

      here : Nth xs (1 + s.i) (get_or xs s.i 0)
      here =
          let at : s.i ≡ 1 + s.i - 1 = omega arith in
          nth-from xs (1 + s.i) 0 (get_or xs s.i 0) (omega arith) (omega (arith, s.high)) (ap (λ j. get_or xs j 0) at)

      none : (n : Node) → Holds b (start (get_or xs s.i 0)) n → Ranged n → ⊥
      none n k r = let good = node-reads b (start (get_or xs s.i 0)) n (k, r) in let bad = s.bad in cc

      before : (d : ℕ) → d < 1 + s.i → Unreadable b xs d → ⊥
      before d lt u =
          let n = s.before (d - 1) (omega (arith, u.1.low)) in
          let r = node-read b (start (get_or xs (d - 1) 0)) n.0 n.1 in
          not-unreadable xs d (n.0, r.0, r.1) u

  pub records-refuses : (xs : List ℕ) (c : ℕ) → Lowest (Unreadable b xs) c → records b [] xs ≡ Err (Content c)
  records-refuses xs c bad =
      ⊎_elim
      (λ k.
      let r = all_read [] xs k.0 k.1 in
      let at = bad.0.1 in
      absurd (not-unreadable xs c (held_at xs r.more (c - 1) r.holds r.ranged (omega (arith, at.low, at.high))) bad.0))
      (λ k. let w = records-refused xs k.0 k.1 in k.1 ∙ ap Err w.1 ∙ ap (λ c. Err (Content c)) (lowest-same (Unreadable b xs) w.0 c w.2 bad))
      (cases-result (records b [] xs))
