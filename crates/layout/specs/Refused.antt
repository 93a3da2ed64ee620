-- Which refusal a job file meets, and at which place: the first cause that applies.
use Rattle.std.specs.Prelude.{◌≡◌, ℕ, ◌<◌, ◌≤◌, true, ◌⊎◌, List, [], ◌∷◌, length}
use Rattle.std.specs.List.{AllByRecursion}
use Rattle.layout.specs.declared.node.Node.{Node}
use Rattle.layout.specs.declared.node.Node.TheVariants.{Fork}
use Rattle.layout.specs.declared.refusal.LoadRefusal.{LoadRefusal}
use Rattle.layout.specs.declared.refusal.LoadRefusal.TheVariants.{Size, Link, Content, Naming}
use Rattle.layout.specs.Layout.{count, start}
use Rattle.layout.specs.Chain.{among}
use Rattle.layout.specs.Follows.{Holds, Contents, WellSized, Reached, Chained}
use Rattle.layout.specs.Shape.{Nth, Ranged}

-- c is the lowest number of which P holds
abbrev pub Lowest : (ℕ → Type 0) → ℕ → Type 0
Lowest P c = P c × ((d : ℕ) → d < c → P d → ⊥)

-- the last of these, or p where there is none
abbrev pub final : ℕ → List ℕ → ℕ
final p [] = p
final p (x ∷ xs) = final x xs

-- after the records xs, of m, the link y leads above m, or back to one of xs, or it is the header's and 0
abbrev pub Stray : ℕ → List ℕ → ℕ → Type 0
Stray m xs y = (m < y) ⊎ ((among y xs ≡ true) ⊎ ((y ≡ 0) × (xs ≡ [])))

-- record p, the last that is reached from the header on (0: the header itself), has a stray link
abbrev pub BadLink : List ℕ → ℕ → ℕ → Type 0
BadLink b m p = (xs : List ℕ) × (y : ℕ) × Reached b m xs y × Stray m xs y × (p ≡ final 0 xs)

-- the record of node c, number c on the chain xs, holds no node in range
abbrev pub Unreadable : List ℕ → List ℕ → ℕ → Type 0
Unreadable b xs c = (x : ℕ) × Nth xs c x × ((n : Node) → Holds b (start x) n → Ranged n → ⊥)

-- node f is a fork that names node c
abbrev pub Names : List Node → ℕ → ℕ → Type 0
Names ns f c = (o : ℕ) × (Nth ns f (Fork c o) ⊎ Nth ns f (Fork o c))

-- node f is a fork that names 0, a node that is not lower, a node that a lower fork names, or one node twice
abbrev pub Misnames : List Node → ℕ → Type 0
Misnames ns f =
    ((c : ℕ) × Names ns f c × ((c ≡ 0) ⊎ ((f ≤ c) ⊎ ((g : ℕ) × (g < f) × Names ns g c))))
    ⊎ ((c : ℕ) × Nth ns f (Fork c c))

-- node c is not the last, and no fork names it
abbrev pub Unnamed : List Node → ℕ → Type 0
Unnamed ns c = (1 ≤ c) × (c < length ns) × ((f : ℕ) → Names ns f c → ⊥)

-- p is the lowest fork that misnames; or none does, and p is the lowest node that is not named
abbrev pub BadNaming : List Node → ℕ → Type 0
BadNaming ns p = Lowest (Misnames ns) p ⊎ (((f : ℕ) → Misnames ns f → ⊥) × Lowest (Unnamed ns) p)

-- the file b is refused so: Size unless it is well sized; then for a bad link, a bad record on the chain, a bad name, in this order
abbrev pub Refused : List ℕ → LoadRefusal → Type 0
Refused b Size = WellSized b → ⊥
Refused b (Link p) = WellSized b × BadLink b (count b) p
Refused b (Content c) = WellSized b × ((xs : List ℕ) × Chained b (count b) xs × Lowest (Unreadable b xs) c)
Refused b (Naming p) =
    WellSized b × ((xs : List ℕ) × (ns : List Node) × Chained b (count b) xs × Contents b xs ns × AllByRecursion Ranged ns × BadNaming ns p)
