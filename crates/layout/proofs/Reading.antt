-- What a record reads, by itself and in the file.
use Rattle.std.proofs.Common.{◌≡◌, ℕ, ◌+◌, ◌<◌, List, get_or, take, drop, refl, ap, ◌∙◌, arith}
use Rattle.std.proofs.lemmas.List.{get_or-take, get_or-drop}
use Rattle.layout.specs.Layout.{short_at, word_at, node_at}

-- the twelve bytes from place i on, read by themselves
module _ (b : List ℕ) (i : ℕ) where
  abbrev r : List ℕ
  r = take 12 (drop i b)

  byte : (k : ℕ) → k < 12 → get_or r k 0 ≡ get_or b (i + k) 0
  byte k lt = get_or-take 12 (drop i b) k 0 lt ∙ get_or-drop i b k 0

  pub short-record : (k : ℕ) → k < 11 → short_at r k ≡ short_at b (i + k)
  short-record k lt =
      let e = byte k (omega arith) in
      let f = byte (k + 1) (omega arith) in
      let at : i + (k + 1) ≡ i + k + 1 = omega arith in
      rw (e, f, at) refl

  word : (k : ℕ) → k < 9 → word_at r k ≡ word_at b (i + k)
  word k lt =
      let e = short-record k (omega arith) in
      let f = short-record (k + 2) (omega arith) in
      let at : i + (k + 2) ≡ i + k + 2 = omega arith in
      rw (e, f, at) refl

  pub node-record : node_at r 0 ≡ node_at b i
  node-record =
      let at : i + 0 ≡ i = omega arith in
      let e0 : get_or r 0 0 ≡ get_or b i 0 = byte 0 (omega arith) ∙ ap (λ i. get_or b i 0) at in
      let e1 = byte 1 (omega arith) in
      let w4 = word 4 (omega arith) in
      let s4 = short-record 4 (omega arith) in
      let s6 = short-record 6 (omega arith) in
      let w8 = word 8 (omega arith) in
      let s8 = short-record 8 (omega arith) in
      let s10 = short-record 10 (omega arith) in
      rw (e0, e1, w4, s4, s6, w8, s8, s10) refl
