-- The table and the queue at a start, while the points enter one by one.
use Rattle.std.proofs.Common.{◌≡◌, ℕ, zero, suc, ◌+◌, ◌*◌, ◌<◌, ◌≤◌, true, cond, not, ◌≢◌, List, length, get_or, set, replicate, Some, None, sym, refl, ap, ◌∙◌, mul-le-mul_right, add-one, arith}
use lib.Arith.{digits_lt}
use Rattle.std.proofs.lemmas.List.{length-set, length-replicate, get_or-set_other}
use Rattle.std.proofs.lemmas.Bool.{cond-true, and_from, lt-ltb, le-leb}
use Rattle.figures.specs.Limits.{value_limit}
use Rattle.queue.specs.Meaning.{Meaning, capacity, key_of, put}
use Rattle.model.specs.State.{one_if, value_of, noted_key, settled_in, waiting_in}
use Rattle.model.specs.Calls.{start_table, start_queue, lowers, waits_as_low}
use Rattle.model.specs.declared.Pair.TheVariants.{Unseen, Waiting}
use Rattle.job.proofs.Trying.{waits_more, settles_same}

-- in a row of c places, those of the pairs (w, w) of the first u of n points hold x, all others d
abbrev pub entered : {A : Type 0} → ℕ → ℕ → A → A → ℕ → List A
entered n c d x zero = replicate c d
entered n c d x (suc u) = set (entered n c d x u) (u * n + u) x

length_entered : {A : Type 0} (n c : ℕ) (d x : A) (u : ℕ) → length (entered n c d x u) ≡ c
length_entered n c d x zero = length-replicate c d
length_entered n c d x (suc u) = length-set (entered n c d x u) (u * n + u) x ∙ length_entered n c d x u

get_or_all : {A : Type 0} (c i : ℕ) (d : A) → get_or (replicate c d) i d ≡ d
get_or_all zero i d = refl
get_or_all (suc c) zero d = refl
get_or_all (suc c) (suc i) d = get_or_all c i d

-- a pair that has not entered
not_entered : {A : Type 0} (n c : ℕ) (d x : A) (u v : ℕ) → u ≤ v → get_or (entered n c d x u) (v * n + v) d ≡ d
not_entered n c d x zero v h = get_or_all c (v * n + v) d
not_entered n c d x (suc u) v h =
    let more : u * n ≤ v * n = mul-le-mul_right n (omega arith) in
    let other : (v * n + v) ≢ (u * n + u) = omega arith in
    get_or-set_other (entered n c d x u) (u * n + u) (v * n + v) x d other ∙ not_entered n c d x u v (omega arith)

pub own_below : (n u : ℕ) → u < n → u * n + u < n * n
own_below n u h = digits_lt h h

-- the table
pub table_entered : (n u : ℕ) → start_table n u ≡ entered n (n * n) Unseen (Waiting 0 None) u
table_entered n zero = refl
table_entered n (suc u) = ap (λ ps. set ps (u * n + u) (Waiting 0 None)) (table_entered n u)

pub length_table : (n u : ℕ) → length (start_table n u) ≡ n * n
length_table n u = ap length (table_entered n u) ∙ length_entered n (n * n) Unseen (Waiting 0 None) u

unseen_yet : (n u : ℕ) → get_or (start_table n u) (u * n + u) Unseen ≡ Unseen
unseen_yet n u =
    ap (λ ps. get_or ps (u * n + u) Unseen) (table_entered n u)
    ∙ not_entered n (n * n) Unseen (Waiting 0 None) u u (omega arith)

none_waits : (c : ℕ) → waiting_in (replicate c Unseen) ≡ 0
none_waits zero = refl
none_waits (suc c) = none_waits c

none_settled : (c : ℕ) → settled_in (replicate c Unseen) ≡ 0
none_settled zero = refl
none_settled (suc c) = none_settled c

pub start_waiting : (n u : ℕ) → u ≤ n → waiting_in (start_table n u) ≡ u
start_waiting n zero h = none_waits (n * n)
start_waiting n (suc u) h =
    let long : length (start_table n u) ≡ n * n = length_table n u in
    let low : u * n + u < n * n = own_below n u (omega arith) in
    let yet = ap (λ p. one_if (noted_key p) 0) (unseen_yet n u) in
    omega (arith, yet, start_waiting n u (omega arith), waits_more (start_table n u) (u * n + u) 0 None (omega arith))

pub start_settled : (n u : ℕ) → u ≤ n → settled_in (start_table n u) ≡ 0
start_settled n zero h = none_settled (n * n)
start_settled n (suc u) h =
    let long : length (start_table n u) ≡ n * n = length_table n u in
    let low : u * n + u < n * n = own_below n u (omega arith) in
    let yet = ap (λ p. one_if (value_of p) 0) (unseen_yet n u) in
    omega (arith, yet, start_settled n u (omega arith), settles_same (start_table n u) (u * n + u) 0 None (omega arith))

-- the queue
queue_entered : (n u : ℕ) (m : Meaning) → (start_queue n u m).waits ≡ entered n (capacity m) None (Some 0) u
queue_entered n zero m = refl
queue_entered n (suc u) m = ap (λ ks. set ks (u * n + u) (Some 0)) (queue_entered n u m)

floor_start : (n u : ℕ) (m : Meaning) → (start_queue n u m).floor ≡ 0
floor_start n zero m = refl
floor_start n (suc u) m = floor_start n u m

-- the next point may enter
next_lowers : (n u : ℕ) (m : Meaning) → u < n → n * n ≤ capacity m → lowers (start_queue n u m) (u * n + u) 0 ≡ true
next_lowers n u m h room =
    let q : Meaning = start_queue n u m in
    let i : ℕ = u * n + u in
    let size : capacity q ≡ capacity m = ap length (queue_entered n u m) ∙ length_entered n (capacity m) None (Some 0) u in
    let low : i < n * n = own_below n u h in
    let none : key_of q i ≡ None =
    ap (λ ks. get_or ks i None) (queue_entered n u m) ∙ not_entered n (capacity m) None (Some 0) u u (omega arith) in
    let zero_floor : q.floor ≡ 0 = floor_start n u m in
    and_from _ _
    (and_from _ _
    (and_from _ _ (and_from _ _ (lt-ltb i (capacity q) (omega arith)) (le-leb q.floor 0 (omega arith)))
    (le-leb 0 (q.floor + q.band) (omega arith)))
    (le-leb 0 value_limit (omega arith)))
    (ap (λ k. not (waits_as_low k 0)) none)

-- and its entering is the next step of the start
pub next_enters : (n u : ℕ) (m q o : Meaning) → u < n → n * n ≤ capacity m → q ≡ start_queue n u m →
    o ≡ cond (lowers q (u * n + u) 0) (put q (u * n + u) 0) q → o ≡ start_queue n (u + 1) m
next_enters n u m q o h room is after =
    after ∙ ap (λ x. cond (lowers x (u * n + u) 0) (put x (u * n + u) 0) x) is
    ∙ cond-true _ _ _ (next_lowers n u m h room) ∙ ap (λ k. start_queue n k m) (sym (add-one u))
