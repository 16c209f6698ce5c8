-- A test that can be computed of each case, and that a case that passes it holds.
-- Assumes nothing.
use Rattle.std.proofs.Common.{◌≡◌, ℕ, zero, suc, ◌/◌, ◌%◌, ◌<◌, Bool, true, false, cond, not, ◌&&◌, eqb, ltb, leb, List, [], ◌∷◌, is_some, Some, None, Option, refl, ap, arith}
use Rattle.std.specs.List.{AllByRecursion}
use Rattle.std.proofs.lemmas.Bool.{both_ways, and_parts, eqb-true, leb-true, ltb-true, not-true}
use Rattle.model.specs.declared.Answer.TheVariants.{Value, NoWay, NotYet}
use Rattle.model.specs.State.{JobState, is_finished, pair_at, value_of, settled_in}
use Rattle.model.specs.Calls.{open_due, opened, start_queue, budget_limit}
use Rattle.runs.specs.Lists.{reach_in}
use Rattle.worked.specs.Cases.{hall, By, rule, Case, settles, looks_up, works, tries, opens, offers, Holds, cases}
use Rattle.worked.proofs.Units.{units}
use Rattle.worked.proofs.Routes.{routes}
use Rattle.worked.proofs.Compared.{passing, at_most}
use Rattle.worked.proofs.Grants.{worked_on, grant}
use Rattle.worked.proofs.Runs.{settling, looking, ending, working}
use Rattle.worked.proofs.Hall.{lawful_by, laid_out, queue, begun, after}
use Rattle.worked.proofs.Queues.{passes, answer, trying, open_answer, starting, offer_answer, offering}

-- the table after as many units as there are pairs
ended : By → JobState
ended by = (units (rule by).join 16 (opened laid_out queue (reach_in (rule by) laid_out)) (start_queue 4 4 queue)).state

abbrev value_by : By → ℕ → ℕ → Option ℕ
value_by by u v = value_of (pair_at (ended by) u v)

abbrev same_number : Option ℕ → Option ℕ → Bool
same_number None None = true
same_number None (Some y) = false
same_number (Some x) None = false
same_number (Some x) (Some y) = eqb x y

abbrev same_route : List ℕ → List ℕ → Bool
same_route [] [] = true
same_route [] (y ∷ ys) = false
same_route (x ∷ xs) [] = false
same_route (x ∷ xs) (y ∷ ys) = eqb x y && same_route xs ys

-- the list has this route alone
abbrev alone : List (List ℕ) → List ℕ → Bool
alone [] r = false
alone (q ∷ []) r = same_route q r
alone (q ∷ p ∷ rest) r = false

abbrev settled_by : By → ℕ
settled_by by = settled_in (ended by).table

-- the rule can be made, the hall opens, its table is finished then, and more
abbrev finishes : By → List Bool → List Bool
finishes by more =
    lawful_by by ∷ not (is_some (open_due laid_out queue (reach_in (rule by) laid_out))) ∷ is_finished (ended by) ∷ more

-- there is no test for a look-up that answers a value
abbrev tests : Case → List Bool
tests (settles by u v x r) = finishes by (same_number (value_by by u v) (Some x) ∷ alone (routes hall (rule by).join u v x 4) r ∷ [])
tests (looks_up by g u v (Value x l)) = false ∷ []
tests (looks_up by g u v NoWay) =
    finishes by (ltb u 4 ∷ ltb v 4 ∷ not (is_some (value_by by u v)) ∷ leb (settled_by by) g ∷ leb g budget_limit ∷ [])
tests (looks_up by g u v (NotYet y)) =
    finishes by
    (ltb u 4
    ∷ ltb v 4
    -- the pair has no value up to y, another has y, g pairs have one up to y, and more have a value
    ∷ not (at_most y (value_by by u v))
    ∷ ltb 0 (passing (λ i. same_number (value_by by (i / 4) (i % 4)) (Some y)) 16)
    ∷ eqb (passing (λ i. at_most y (value_by by (i / 4) (i % 4))) 16) g
    ∷ ltb g (settled_by by)
    ∷ leb g budget_limit
    ∷ [])
tests (works by b n l) =
    finishes by (eqb (settled_by by) n ∷ leb n b ∷ leb b budget_limit ∷ eqb (ended by).tried l ∷ [])
tests (tries q a) = same_number (answer (passes q)) a ∷ []
tests (opens n c by q a) = same_number (open_answer n c by q) a ∷ []
tests (offers slots f k a) = same_number (offer_answer slots f k) a ∷ []

abbrev all_of : List Bool → Bool
all_of [] = true
all_of (b ∷ bs) = b && all_of bs

abbrev all_pass : List Case → Bool
all_pass [] = true
all_pass (c ∷ cs) = all_of (tests c) && all_pass cs

each_of : (bs : List Bool) → all_of bs ≡ true → AllByRecursion (λ b. b ≡ true) bs
each_of [] e = tt
each_of (b ∷ bs) e = let (here, rest) = and_parts b (all_of bs) e in (here, each_of bs rest)

number_same : (a b : Option ℕ) → same_number a b ≡ true → a ≡ b
number_same None None e = refl
number_same None (Some y) e = absurd (both_ways false refl e)
number_same (Some x) None e = absurd (both_ways false refl e)
number_same (Some x) (Some y) e = ap (λ z. Some z) (eqb-true x y e)

route_same : (a b : List ℕ) → same_route a b ≡ true → a ≡ b
route_same [] [] e = refl
route_same [] (y ∷ ys) e = absurd (both_ways false refl e)
route_same (x ∷ xs) [] e = absurd (both_ways false refl e)
route_same (x ∷ xs) (y ∷ ys) e =
    let (head, tail) = and_parts (eqb x y) (same_route xs ys) e in
    let here : x ≡ y = eqb-true x y head in
    let rest : xs ≡ ys = route_same xs ys tail in
    cc

alone_so : (rs : List (List ℕ)) (r : List ℕ) → alone rs r ≡ true → rs ≡ r ∷ []
alone_so [] r e = absurd (both_ways false refl e)
alone_so (q ∷ []) r e = ap (λ p. p ∷ []) (route_same q r e)
alone_so (q ∷ p ∷ rest) r e = absurd (both_ways false refl e)

none_so : {A : Type 0} (o : Option A) → not (is_some o) ≡ true → o ≡ None
none_so None e = refl
none_so (Some x) e = absurd (both_ways false refl e)

-- a test that some number passes has one that does
some_passes : (test : ℕ → Bool) (n : ℕ) → 0 < passing test n → (i : ℕ) × (test i ≡ true)
some_passes test zero l = absurd (omega arith)
some_passes test (suc n) l = by (test n) refl l (some_passes test n)
  where
    by : (b : Bool) → test n ≡ b → 0 < cond b (suc (passing test n)) (passing test n) →
        (0 < passing test n → (i : ℕ) × (test i ≡ true)) → (i : ℕ) × (test i ≡ true)
    by true e l rest = (n, e)
    by false e l rest = rest l

checked : (c : Case) → AllByRecursion (λ b. b ≡ true) (tests c) → Holds c
unfolding ended begun after grant worked_on
checked (settles by u v x r) (lawful, (ok, (over, (value, (one, more))))) =
    settling by (after by lawful (none_so _ ok) 16 (omega arith)) over u v x r (number_same (value_by by u v) (Some x) value)
    (alone_so (routes hall (rule by).join u v x 4) r one)
checked (looks_up by g u v (Value x l)) (never, more) = absurd (both_ways false refl never)
checked (looks_up by g u v NoWay) (lawful, (ok, (over, (lu, (lv, (none, (late, (few, more)))))))) =
    ending by (after by lawful (none_so _ ok) 16 (omega arith)) over g u v (ltb-true u 4 lu) (ltb-true v 4 lv)
    (none_so (value_by by u v) none) (leb-true (settled_by by) g late)
    (after by lawful (none_so _ ok) g (leb-true g budget_limit few)) (omega arith)
checked (looks_up by g u v (NotYet y)) (lawful, (ok, (over, (lu, (lv, (high, (last, (exact, (early, (few, more)))))))))) =
    let (i, at) = some_passes (λ i. same_number (value_by by (i / 4) (i % 4)) (Some y)) 16 (ltb-true 0 _ last) in
    looking by (after by lawful (none_so _ ok) 16 (omega arith)) over g y u v (i / 4) (i % 4) (ltb-true u 4 lu) (ltb-true v 4 lv)
    (not-true (at_most y (value_by by u v)) high) (number_same (value_by by (i / 4) (i % 4)) (Some y) at)
    (eqb-true (passing (λ i. at_most y (value_by by (i / 4) (i % 4))) 16) g exact) (ltb-true g (settled_by by) early)
    (after by lawful (none_so _ ok) g (leb-true g budget_limit few)) (omega arith)
checked (works by b n l) (lawful, (ok, (over, (all, (enough, (few, (tried, more))))))) =
    working by (after by lawful (none_so _ ok) 16 (omega arith)) over b n l (eqb-true (settled_by by) n all) (leb-true n b enough)
    (leb-true b budget_limit few) (eqb-true (ended by).tried l tried) (begun by lawful (none_so _ ok)) refl
checked (tries q a) (e, more) = rw (← (number_same (answer (passes q)) a e)) (trying q)
checked (opens n c by q a) (e, more) = rw (← (number_same (open_answer n c by q) a e)) (starting n c by q)
checked (offers slots f k a) (e, more) = rw (← (number_same (offer_answer slots f k) a e)) (offering slots f k)

all_checked : (cs : List Case) → all_pass cs ≡ true → AllByRecursion Holds cs
all_checked [] e = tt
all_checked (c ∷ cs) e =
    let (here, rest) = and_parts (all_of (tests c)) (all_pass cs) e in
    (checked c (each_of (tests c) here), all_checked cs rest)

pub all_hold : AllByRecursion Holds cases
unfolding units ended
all_hold = all_checked cases refl
