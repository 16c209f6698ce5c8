-- How many pairs of a table are settled, and how many wait.
-- Assumes nothing.
use Rattle.std.proofs.Common.{◌≡◌, ℕ, zero, suc, ◌*◌, ◌≤◌, List, [], ◌∷◌, length, get_or, Some, None, Option, sym, refl, ap, ◌∙◌, arith}
use Rattle.queue.specs.Meaning.{held as held_keys, one_if as one_if_key}
use Rattle.walks.specs.Hall.{Hall}
use Rattle.walks.specs.Search.{weigh, held}
use Rattle.walks.specs.Units.{Counted, none, has, lacks, settled_item, settled_count}
use Rattle.walks.proofs.Places.{weighed_same}
use Rattle.model.specs.declared.Pair.{Pair}
use Rattle.model.specs.declared.Pair.TheVariants.{Unseen}
use Rattle.model.specs.State.{value_of, noted_key, one_if, settled_in, waiting_in}
use Rattle.runs.proofs.Known.{board, known_item}

swap : (a b : Option ℕ) (m : ℕ) → weigh 1 a (weigh 1 b m) ≡ weigh 1 b (weigh 1 a m)
swap None b m = refl
swap (Some x) None m = refl
swap (Some x) (Some y) m = refl

-- the first place apart from the others
held_front : (f : ℕ → Option ℕ) (n : ℕ) → held f (suc n) ≡ weigh 1 (f 0) (held (λ i. f (suc i)) n)
held_front f zero = refl
held_front f (suc n) =
    ap (weigh 1 (f (suc n))) (held_front f n) ∙ swap (f (suc n)) (f 0) (held (λ i. f (suc i)) n)

counts : (o : Option ℕ) (m : ℕ) → one_if o m ≡ weigh 1 o m
counts None m = refl
counts (Some x) m = omega arith

settled_held : (ps : List Pair) → settled_in ps ≡ held (λ i. value_of (get_or ps i Unseen)) (length ps)
settled_held [] = refl
settled_held (p ∷ ps) =
    ap (one_if (value_of p)) (settled_held ps)
    ∙ counts (value_of p) (held (λ i. value_of (get_or ps i Unseen)) (length ps))
    ∙ sym (held_front (λ i. value_of (get_or (p ∷ ps) i Unseen)) (length ps))

-- the settled pairs of a table are those of its state
pub settled_same : (h : Hall) (ps : List Pair) → length ps ≡ h.points * h.points →
    settled_in ps ≡ settled_count h (board h.points ps)
settled_same h ps size =
    settled_held ps ∙ ap (held (λ i. value_of (get_or ps i Unseen))) size
    ∙ sym (weighed_same (λ i. 1) (λ i. value_of (get_or ps i Unseen)) (settled_item h (board h.points ps)) (h.points * h.points)
    (λ i l. ap value_of (known_item h.points ps i l)))

-- a queue that agrees with a table has as many waiting
pub waiting_same : (ks : List (Option ℕ)) (ps : List Pair) → ((i : ℕ) → get_or ks i None ≡ noted_key (get_or ps i Unseen)) →
    held_keys ks ≡ waiting_in ps
waiting_same [] [] same = refl
waiting_same [] (p ∷ ps) same =
    let none : noted_key p ≡ None = sym (same 0) in
    rw none (waiting_same [] ps (λ i. same (suc i)))
waiting_same (k ∷ ks) [] same =
    let none : k ≡ None = same 0 in
    rw none (waiting_same ks [] (λ i. same (suc i)))
waiting_same (k ∷ ks) (p ∷ ps) same =
    let here : k ≡ noted_key p = same 0 in
    rw here (each (noted_key p) (waiting_same ks ps (λ i. same (suc i))))
  where
    each : (o : Option ℕ) → held_keys ks ≡ waiting_in ps → one_if_key o (held_keys ks) ≡ one_if o (waiting_in ps)
    each None e = e
    each (Some x) e = ap suc e

-- where none waits, no place has a key
pub none_waits : (ps : List Pair) → waiting_in ps ≡ 0 → (i : ℕ) → noted_key (get_or ps i Unseen) ≡ None
none_waits [] e i = refl
none_waits (p ∷ ps) e i = each (noted_key p) refl e (λ e i. none_waits ps e i) i
  where
    each : (o : Option ℕ) → noted_key p ≡ o → one_if o (waiting_in ps) ≡ 0 →
        (waiting_in ps ≡ 0 → (i : ℕ) → noted_key (get_or ps i Unseen) ≡ None) → (i : ℕ) → noted_key (get_or (p ∷ ps) i Unseen) ≡ None
    each None f e rest zero = f
    each None f e rest (suc i) = rest e i
    each (Some x) f e rest i = absurd (omega arith)

pub all_none : (ps : List Pair) → ((i : ℕ) → noted_key (get_or ps i Unseen) ≡ None) → waiting_in ps ≡ 0
all_none [] free = refl
all_none (p ∷ ps) free =
    let here : noted_key p ≡ None = free 0 in
    rw here (all_none ps (λ i. free (suc i)))

-- a count is no more than what is counted over
pub counted_le : {P : ℕ → Type 0} {m c : ℕ} → Counted P m c → c ≤ m
counted_le none = omega arith
counted_le (has {m} {c} p rest) = let below : c ≤ m = counted_le rest in omega arith
counted_le (lacks {m} {c} p rest) = let below : c ≤ m = counted_le rest in omega arith
