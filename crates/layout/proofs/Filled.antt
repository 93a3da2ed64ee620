-- The passes, one after another.
use Rattle.std.proofs.Common.{◌≡◌, ℕ, ◌+◌, ◌*◌, ◌≤◌, Bool, true, false, cond, leb, List, [], length, IfOk, Ok, Err, Result, sym, refl, ap, ◌∙◌, arith}
use Rattle.std.proofs.lemmas.Bool.{eq-eqb, eqb-true, leb-true, le-leb, cond-true, false≢true}
use Rattle.layout.specs.declared.node.Node.{Node}
use Rattle.layout.specs.declared.refusal.LoadRefusal.{LoadRefusal}
use Rattle.layout.specs.declared.refusal.LoadRefusal.TheVariants.{Size}
use Rattle.layout.specs.Layout.{count, sized, header}
use Rattle.layout.specs.Chain.{chain}
use Rattle.layout.specs.Records.{records}
use Rattle.layout.specs.Follows.{WellSized}
use Rattle.layout.specs.Loaded.{loaded}
use Rattle.layout.specs.Naming.{parents}
use Rattle.layout.specs.Steps.{map_ok, and_then}
use Rattle.layout.specs.declared.node.Parent.{Parent}
use Rattle.layout.proofs.Chains.{chain-short}
use Rattle.layout.proofs.Contained.{all_read}
use Rattle.layout.proofs.Steps.{same_ok, same-err, clash}

guard : {X E : Type 0} (t : Bool) (r : Result X E) (e : E) (x : X) → cond t r (Err e) ≡ Ok x → (t ≡ true) × (r ≡ Ok x)
guard true r e x h = (refl, h)
guard false r e x h = absurd (clash h refl)

test : (t u : Bool) → cond t u false ≡ true → (t ≡ true) × (u ≡ true)
test true u h = (refl, h)
test false u h = absurd (false≢true h)

pub header-found : (b : List ℕ) (m : ℕ) → header b ≡ Ok m → (m ≡ count b) × WellSized b
header-found b m h =
    let p = guard (leb 4 (length b)) _ Size m h in
    let q = guard (sized b (count b)) _ Size m p.1 in
    let s = test (leb 1 (count b)) _ q.0 in
    let t = test (leb (count b) 1024) _ s.1 in (
      same_ok q.1 refl,
      record {
        headed = leb-true _ _ p.0;
        counted = (leb-true _ _ s.0, leb-true _ _ t.0);
        exact = eqb-true _ _ t.1;
      },
    )

pub header-finds : (b : List ℕ) → WellSized b → header b ≡ Ok (count b)
header-finds b h =
    cond-true _ _ _ (le-leb 4 (length b) h.headed)
    ∙ cond-true _ _ _ (cond-true _ _ _ (le-leb 1 (count b) h.counted.0) ∙ cond-true _ _ _ (le-leb (count b) 1024 h.counted.1) ∙ eq-eqb (length b) (4 + 12 * count b) h.exact)

pub header_refused : (b : List ℕ) (e : LoadRefusal) → header b ≡ Err e → (e ≡ Size) × (WellSized b → ⊥)
header_refused b e h = (only (leb 4 (length b)) (sized b (count b)) h, λ w. clash (header-finds b w) h)
  where
    only : (t u : Bool) → cond t (cond u (Ok (count b)) (Err Size)) (Err Size) ≡ Err e → e ≡ Size
    only true true h = absurd (clash refl h)
    only true false h = same-err h refl
    only false u h = same-err h refl

-- what the passes before the naming found is few nodes
pub few : (b : List ℕ) (m : ℕ) (xs : List ℕ) (ns : List Node) → header b ≡ Ok m → chain b m ≡ Ok xs → records b [] xs ≡ Ok ns → length ns ≤ 1024
few b m xs ns head link read =
    let h = header-found b m head in
    let r = all_read b [] xs ns read in
    omega (arith, h.0, h.1.counted.1, r.long, ap length r.joined, chain-short b m xs link)

-- and then what is loaded hangs on the naming alone
pub passed-loaded : (b : List ℕ) (m : ℕ) (xs : List ℕ) (ns : List Node) → header b ≡ Ok m → chain b m ≡ Ok xs → records b [] xs ≡ Ok ns → loaded b ≡ and_then (parents ns) (λ _. Ok ns)
passed-loaded b m xs ns head link read = rw (head, link, read) refl

-- what follows from the parents holds where the naming succeeds
pub kept : (ns : List Node) (P : Type 0) (ps : List Parent) (r : Result Unit LoadRefusal) → map_ok (λ _. ps) r ≡ parents ns → (parents ns ≡ Ok ps → P) → IfOk r (λ _. P)
kept ns P ps (Ok u) h k = k (sym h)
kept ns P ps (Err e) h k = tt
