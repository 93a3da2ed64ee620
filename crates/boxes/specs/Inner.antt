-- For inner functions, and for what the boxes keep between calls; no public contract needs it.
use Rattle.std.specs.Prelude.{◌≡◌, ℕ, zero, suc, ◌+◌, Bool, true, false, cond, ◌&&◌, List, [], ◌∷◌, map, replicate, ◌==◌, nat_lt, slice_set, unwrap_or, option_map, option_and_then, Option, Some, None}
use Rattle.std.specs.List.{range_with_len}
use Rattle.mail.specs.Messages.{class_number, wanted}
use Rattle.mail.specs.declared.asked.Asked.{Asked}
use Rattle.mail.specs.declared.message.Message.{Message}
use Rattle.boxes.specs.Chains.{next, held}
use Rattle.boxes.specs.declared.boxes.pool.Pool.{Pool}

-- the link in a cell of a new pool: each record leads to the next, and the free chain begins with the first
abbrev pub first_link : ℕ → Option ℕ
first_link cell = cond (nat_lt cell 63) (Some (cell + 1)) (cond (cell == 64) (Some 0) None)

-- every record is free
abbrev pub fresh : Pool
fresh = record { records = replicate 64 None; links = map first_link (range_with_len 0 81); count = 0 }

-- whose message it is; nothing is of 0
abbrev pub receiver_of : Option Message → ℕ
receiver_of None = 0
receiver_of (Some m) = m.receiver

-- whose record it is; 0 for a free one
abbrev pub owner : List (Option Message) → ℕ → ℕ
owner records i = receiver_of (held records i)

-- within n records the chain ends, and each is one of the 64 and belongs to q
unfoldable pub tight : (ℕ → Option ℕ) → (ℕ → ℕ) → ℕ → ℕ → Option ℕ → Bool
tight to of q n None = true
tight to of q zero (Some x) = false
tight to of q (suc n) (Some x) = nat_lt x 64 && of x == q && tight to of q n (to x)

-- so does the chain of q in a pool
abbrev pub Tight : Pool → ℕ → Type 0
Tight pool q = tight (next pool.links) (owner pool.records) q 64 (next pool.links (64 + q)) ≡ true

-- is it a message that is asked for?
abbrev pub is_asked_for : Asked → Option Message → Bool
is_asked_for asked None = false
is_asked_for asked (Some m) = wanted asked.receiver (class_number asked.class) m

-- does the record hold one?
abbrev pub sought : Pool → Asked → ℕ → Bool
sought pool asked i = is_asked_for asked (held pool.records i)

-- the cell before the first of these records that passes a test, if one does
abbrev pub before : (ℕ → Bool) → ℕ → List ℕ → Option ℕ
before test cell [] = None
before test cell (x ∷ xs) = cond (test x) (Some cell) (before test x xs)

-- the links after the record x behind a cell moved behind the cell `head`
abbrev pub relinked : List (Option ℕ) → ℕ → ℕ → ℕ → List (Option ℕ)
relinked links cell x head =
    let one : List (Option ℕ) = slice_set links cell (next links x) in
    let two : List (Option ℕ) = slice_set one x (next one head) in
    slice_set two head (Some x)

-- the pool after that, where the record then holds this
abbrev pub moved : Pool → ℕ → ℕ → ℕ → Option Message → ℕ → Pool
moved pool cell x head m count =
    record { records = slice_set pool.records x m; links = relinked pool.links cell x head; count = count }

-- the message in the record after a cell, if there is such a record
abbrev pub held_next : Pool → ℕ → Option Message
held_next pool cell = option_and_then (held pool.records) (next pool.links cell)

-- the pool after that record moved so; without such a record only the count is new
abbrev pub moved_next : Pool → ℕ → ℕ → Option Message → ℕ → Pool
moved_next pool cell head m count =
    unwrap_or (option_map (λ x. moved pool cell x head m count) (next pool.links cell)) (record { records = pool.records; links = pool.links; count = count })
