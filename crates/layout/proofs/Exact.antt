-- A file is loaded exactly when it follows the layout, and is refused exactly for the first cause that applies.
use Rattle.std.proofs.Common.{◌≡◌, ℕ, true, List, [], is_ok, Ok, Err, Result, sym, refl, ap, ◌∙◌, subst, ⊎_elim}
use Rattle.std.proofs.lemmas.Bool.{false≢true}
use Rattle.std.specs.List.{AllByRecursion}
use Rattle.layout.specs.declared.node.Node.{Node}
use Rattle.layout.specs.declared.refusal.LoadRefusal.{LoadRefusal}
use Rattle.layout.specs.declared.refusal.LoadRefusal.TheVariants.{Size, Link, Content, Naming}
use Rattle.layout.specs.Layout.{count, header}
use Rattle.layout.specs.Chain.{chain}
use Rattle.layout.specs.Records.{records}
use Rattle.layout.specs.Naming.{parents}
use Rattle.layout.specs.Follows.{WellSized, Chained, Contents, Follows}
use Rattle.layout.specs.Loaded.{loaded, contents}
use Rattle.layout.specs.Refused.{Refused}
use Rattle.layout.specs.Shape.{Ranged}
use Rattle.layout.specs.Steps.{and_then, map_ok}
use Rattle.layout.proofs.Chains.{chain-found, chain-finds, chain-refused, chain-refuses}
use Rattle.layout.proofs.Contained.{all_read, all-reads, records-ranged, records-refused, records-refuses}
use Rattle.layout.proofs.Filled.{header-found, header-finds, header_refused, few}
use Rattle.layout.proofs.Misnamed.{parents-refused, parents-refuses, parents-found}
use Rattle.layout.proofs.Shapes.{shaped}
use Rattle.layout.proofs.Steps.{same_ok, clash, cases-result, both_ok, one-err, map-err}

-- the passes after the header, after the chain and after the records
abbrev after_records : List Node → Result (List Node) LoadRefusal
after_records ns = and_then (parents ns) (λ _. Ok ns)

abbrev after_chain : List ℕ → List ℕ → Result (List Node) LoadRefusal
after_chain b xs = and_then (records b [] xs) after_records

abbrev after_header : List ℕ → ℕ → Result (List Node) LoadRefusal
after_header b m = and_then (chain b m) (after_chain b)

-- what the passes found, in words
found-chain : (b : List ℕ) (m : ℕ) (xs : List ℕ) → m ≡ count b → chain b m ≡ Ok xs → Chained b (count b) xs
found-chain b m xs is h = chain-found b (count b) xs (sym (ap (chain b) is) ∙ h)

found-contents : (b : List ℕ) (xs : List ℕ) (ns : List Node) → records b [] xs ≡ Ok ns → Contents b xs ns
found-contents b xs ns h = let r = all_read b [] xs ns h in subst (Contents b xs) (sym r.joined) r.holds

pub follows : (b : List ℕ) (ns : List Node) → loaded b ≡ Ok ns → Follows b ns
follows b ns h =
    let head = both_ok (header b) (after_header b) ns h in
    let links = both_ok (chain b head.0) (after_chain b) ns head.2 in
    let read = both_ok (records b [] links.0) after_records ns links.2 in
    let name = both_ok (parents read.0) (λ _. Ok read.0) ns read.2 in
    let size = header-found b head.0 head.1 in
    subst (Follows b) (same_ok refl name.2)
    (record {
      order = links.0;
      ps = name.0;
      sized = size.1;
      chained = found-chain b head.0 links.0 size.0 links.1;
      holds = found-contents b links.0 read.0 read.1;
      shape = shaped read.0 name.0 (few b head.0 links.0 read.0 head.1 links.1 read.1) (records-ranged b links.0 read.0 (sym read.1)) name.1;
    })

-- what the words say, the passes find
module _ (b : List ℕ) (sized : WellSized b) where
  by-header : loaded b ≡ after_header b (count b)
  by-header = ap (λ r. and_then r (after_header b)) (header-finds b sized)

  module _ (xs : List ℕ) (c : Chained b (count b) xs) where
    by_chain : loaded b ≡ after_chain b xs
    by_chain = by-header ∙ ap (λ r. and_then r (after_chain b)) (chain-finds b (count b) c)

    by-records : (ns : List Node) → Contents b xs ns → AllByRecursion Ranged ns → loaded b ≡ after_records ns
    by-records ns holds ranged = by_chain ∙ ap (λ r. and_then r after_records) (all-reads b [] xs ns holds ranged)

pub loads : (b : List ℕ) (ns : List Node) → Follows b ns → loaded b ≡ Ok ns
loads b ns f =
    by-records b f.sized f.order f.chained ns f.holds f.shape.ranged
    ∙ ap (λ r. and_then r (λ _. Ok ns)) (parents-found ns f.ps f.shape).1

pub refused : (b : List ℕ) (e : LoadRefusal) → loaded b ≡ Err e → Refused b e
refused b e h =
    ⊎_elim
    (λ k. let w = header_refused b e k in subst (Refused b) (sym w.0) w.1)
    (λ k. let w = header-found b k.0 k.1 in at-chain k.0 w.0 w.1 k.2)
    (one-err (header b) (after_header b) e h)
  where
    at-naming : (xs : List ℕ) (ns : List Node) → WellSized b → Chained b (count b) xs → Contents b xs ns → AllByRecursion Ranged ns → after_records ns ≡ Err e → Refused b e
    at-naming xs ns sized c holds ranged k =
        ⊎_elim
        (λ k. let w = parents-refused ns e k in subst (Refused b) (sym w.1) (sized, (xs, ns, c, holds, ranged, w.2)))
        (λ k. absurd (clash refl k.2))
        (one-err (parents ns) (λ _. Ok ns) e k)

    at_records : (xs : List ℕ) → WellSized b → Chained b (count b) xs → after_chain b xs ≡ Err e → Refused b e
    at_records xs sized c k =
        ⊎_elim
        (λ k. let w = records-refused b xs e k in subst (Refused b) (sym w.1) (sized, (xs, c, w.2)))
        (λ k. at-naming xs k.0 sized c (found-contents b xs k.0 k.1) (records-ranged b xs k.0 (sym k.1)) k.2)
        (one-err (records b [] xs) after_records e k)

    at-chain : (m : ℕ) → m ≡ count b → WellSized b → after_header b m ≡ Err e → Refused b e
    at-chain m is sized k =
        ⊎_elim
        (λ k. let w = chain-refused b (count b) e (sym (ap (chain b) is) ∙ k) in subst (Refused b) (sym w.1) (sized, w.2))
        (λ k. at_records k.0 sized (found-chain b m k.0 is k.1) k.2)
        (one-err (chain b m) (after_chain b) e k)

pub refuses : (b : List ℕ) (e : LoadRefusal) → Refused b e → loaded b ≡ Err e
refuses b Size wrong =
    ⊎_elim
    (λ k. absurd (wrong (header-found b k.0 k.1).1))
    (λ k. ap (λ r. and_then r (after_header b)) (k.1 ∙ ap Err (header_refused b k.0 k.1).0))
    (cases-result (header b))
refuses b (Link p) (sized, bad) = by-header b sized ∙ ap (λ r. and_then r (after_chain b)) (chain-refuses b (count b) p bad)
refuses b (Content c) (sized, (xs, ch, bad)) = by_chain b sized xs ch ∙ ap (λ r. and_then r after_records) (records-refuses b xs c bad)
refuses b (Naming p) (sized, (xs, ns, ch, holds, ranged, bad)) =
    by-records b sized xs ch ns holds ranged ∙ ap (λ r. and_then r (λ _. Ok ns)) (parents-refuses ns p bad)

-- the same of what a load answers and leaves in the table
pub exact-from : (b : List ℕ) (r : Result Unit LoadRefusal) (out : List Node) → r ≡ map_ok (λ _. tt) (loaded b) → out ≡ contents (loaded b) → (ns : List Node) → (Follows b ns → (is_ok r ≡ true) × (out ≡ ns)) × (is_ok r ≡ true → out ≡ ns → Follows b ns)
exact-from b r out answer table ns = (
  λ f. let l = loads b ns f in (ap is_ok (answer ∙ ap (map_ok (λ _. tt)) l), table ∙ ap contents l),
  λ ok same. follows b ns (back (loaded b) (sym (ap is_ok answer) ∙ ok) (sym table ∙ same)),
)
  where
    back : (s : Result (List Node) LoadRefusal) → is_ok (map_ok {Y = Unit} (λ _. tt) s) ≡ true → contents s ≡ ns → s ≡ Ok ns
    back (Ok x) h e = ap Ok e
    back (Err x) h e = absurd (false≢true h)

pub refused-from : (b : List ℕ) (r : Result Unit LoadRefusal) → r ≡ map_ok (λ _. tt) (loaded b) → (e : LoadRefusal) → (r ≡ Err e → Refused b e) × (Refused b e → r ≡ Err e)
refused-from b r answer e = (
  λ h. refused b e (map-err (λ _. tt) (loaded b) e (sym answer ∙ h)),
  λ w. answer ∙ ap (map_ok (λ _. tt)) (refuses b e w),
)
