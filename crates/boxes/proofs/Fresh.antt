-- Boxes in which every record is free.
use Rattle.std.proofs.Common.{◌≡◌, ℕ, zero, suc, ◌+◌, ◌<◌, ◌≤◌, List, [], ◌∷◌, ◌++◌, length, drop, set, None, refl, ap, arith}
use Rattle.std.specs.List.{range_with_len}
use Rattle.std.proofs.lemmas.Bool.Decides.{nat_tests}
use Rattle.std.proofs.lemmas.List.FromFn.{get_or-map-range_with_len}
use Rattle.boxes.specs.Chains.{next, chain, stacked, pile_of}
use Rattle.boxes.specs.Inner.{first_link, fresh, tight, Tight}
use Rattle.boxes.proofs.Boxings.{Boxed}

-- one more link of a row
pub fill_more : (xs : List ℕ) (a i v : ℕ) → i < length xs → v ≡ a + i → set (range_with_len a i ++ drop i xs) i v ≡ range_with_len a (suc i) ++ drop (suc i) xs
fill_more [] a i v h e = absurd (omega arith)
fill_more (x ∷ xs) a zero v h e = let same : v ≡ a = omega arith in rw same
fill_more (x ∷ xs) a (suc i) v h e = ap (λ ys. a ∷ ys) (fill_more xs (a + 1) i v (omega arith) (omega arith))

fresh_none : (q : ℕ) → 1 ≤ q → q ≤ 16 → next fresh.links (64 + q) ≡ None
fresh_none q l u =
    let e = get_or-map-range_with_len first_link 0 81 (64 + q) (64 + q) None (omega arith) (omega arith) in
    grind (arith, nat_tests)

fresh-tight : (q : ℕ) → q ≤ 16 → Tight fresh q
unfolding tight
fresh-tight zero h = refl
fresh-tight (suc q) h = rw (fresh_none (suc q) (omega arith) h)

pub fresh-pile : pile_of fresh ≡ []
unfolding chain stacked
fresh-pile = refl

pub fresh-boxed : Boxed fresh
unfolding chain stacked
fresh-boxed = record {
  sized = refl;
  linked = refl;
  chained = fresh-tight;
  sent = λ k d h. absurd (omega (arith, h));
  counted = refl;
  spare = refl;
}
