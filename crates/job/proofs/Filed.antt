-- The records of a file.
use Rattle.std.proofs.Common.{◌≡◌, ℕ, zero, suc, ◌+◌, ◌-◌, ◌*◌, ◌<◌, Bool, true, false, cond, not, leb, List, length, get_or, take, drop, is_some, Some, None, Option, sym, refl, ap, ◌∙◌, inr, ⊎_elim, arith}
use Rattle.std.specs.Simd.{first_chunks}
use Rattle.std.proofs.lemmas.List.{drop-drop}
use Rattle.std.proofs.lemmas.Bool.{cases_lt, le-leb, lt-leb, both_ways}
use Rattle.layout.specs.Layout.{short_at, count, start, next, node_at}
use Rattle.layout.specs.Follows.{Index, WellSized}
use Rattle.layout.specs.Shape.{Nth}
use Rattle.layout.proofs.Places.{nth-from, nth-is, nth-some, nth-none}
use Rattle.layout.proofs.Reading.{short-record, node-record}
use Rattle.job.specs.Files.{record_at}

module _ {X : Type 0} (n : ℕ) where
  length-first_chunks : (k : ℕ) (xs : List X) → length (first_chunks n k xs) ≡ k
  length-first_chunks zero xs = refl
  length-first_chunks (suc k) xs = ap suc (length-first_chunks k (drop n xs))

  get_or-first_chunks : (k i : ℕ) (xs d : List X) → i < k → get_or (first_chunks n k xs) i d ≡ take n (drop (n * i) xs)
  get_or-first_chunks zero i xs d h = absurd (omega arith)
  get_or-first_chunks (suc k) zero xs d h = let z : n * 0 ≡ 0 = omega arith in rw z refl
  get_or-first_chunks (suc k) (suc i) xs d h =
      let e : n + n * i ≡ n * suc i = Prim.grind arith in
      rw (get_or-first_chunks k i (drop n xs) d (omega arith), drop-drop, e) refl

module _ (b : List ℕ) (x : ℕ) where
  found : {r : List ℕ} → Some r ≡ record_at b x → Nth (first_chunks 12 (count b) (drop 4 b)) x r
  found {r} h = nth-is _ x r h

  -- where there is a record, its index is one of the file's
  record_index : {r : List ℕ} → Some r ≡ record_at b x → Index (count b) x
  record_index h = let at = found h in (at.low, omega (arith, at.high, length-first_chunks 12 (count b) (drop 4 b)))

  -- a record is twelve bytes of the file
  pub record-is : {r : List ℕ} → Some r ≡ record_at b x → r ≡ take 12 (drop (start x) b)
  record-is {r} h =
      let at = found h in
      let i = record_index h in
      let e : 4 + 12 * (x - 1) ≡ start x = omega (arith, i.0) in
      at.is ∙ get_or-first_chunks 12 (count b) (x - 1) (drop 4 b) r (omega (arith, i.0, i.1)) ∙ rw (drop-drop, e) refl

  pub record-next : {r : List ℕ} → Some r ≡ record_at b x → short_at r 2 ≡ next b x
  record-next h = rw (record-is h) (short-record b (start x) 2 (omega arith))

  pub record-node : {r : List ℕ} → Some r ≡ record_at b x → node_at r 0 ≡ node_at b (start x)
  record-node h = rw (record-is h) (node-record b (start x))

  -- there is a record at each index of the file, and at no other number
  record-there : (x ≡ 0 → ⊥) → is_some (record_at b x) ≡ leb x (count b)
  record-there some =
      let rs = first_chunks 12 (count b) (drop 4 b) in
      let long = length-first_chunks 12 (count b) (drop 4 b) in
      ⊎_elim
      (λ past. let none = nth-none rs x (inr (omega (arith, long))) in let e = lt-leb x (count b) past in rw (none, e) refl)
      (λ high.
      let there = nth-some (nth-from rs x b (get_or rs (x - 1) b) (omega arith) (omega (arith, long)) refl) in
      let e = le-leb x (count b) high in
      rw (there, e) refl)
      (cases_lt (count b) x)

  pub record-none : Index (count b) x → None ≡ record_at b x → ⊥
  record-none i none = both_ways (is_some (record_at b x)) (ap is_some (sym none)) (record-there (λ e. omega (arith, i.0)) ∙ le-leb x (count b) i.1)

  -- the test of a mark and a record
  pub record-test : (x ≡ 0 → ⊥) → (mark : Bool) → is_some (cond mark None (record_at b x)) ≡ cond (leb x (count b)) (not mark) false
  record-test some mark = both mark (leb x (count b)) (record-there some)
    where
      both : (mark t : Bool) → is_some (record_at b x) ≡ t → is_some (cond mark None (record_at b x)) ≡ cond t (not mark) false
      both true true h = refl
      both true false h = refl
      both false true h = h
      both false false h = h

-- an index of the file is below the number of marks
pub record_below : {b : List ℕ} {x at : ℕ} {o : Option (List ℕ)} {r : List ℕ} → o ≡ record_at b x → o ≡ Some r → WellSized b → at ≡ x → at < 1025
record_below {b} {x} found is sized same = let i = record_index b x (sym is ∙ found) in omega (arith, i.1, sized.counted.1)
