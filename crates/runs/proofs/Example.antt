-- A list of calls that finishes a table.
-- Assumes nothing.
use Rattle.std.proofs.Common.{◌≡◌, ℕ, zero, suc, ◌+◌, ◌≤◌, true, [], ◌∷◌, map, Some, None, refl, arith}
use Rattle.queue.specs.declared.Entry.{Entry}
use Rattle.queue.specs.Meaning.{Meaning, Least, key_of}
use Rattle.walks.specs.Hall.{Lawful}
use Rattle.walks.proofs.Places.{clash}
use Rattle.model.specs.State.{JobState, is_finished, settled_in}
use Rattle.model.specs.Calls.{made, laid, opened, start_queue, empty, unit, after_unit, queue_after}
use Rattle.runs.specs.Lists.{Rule, Run, start, making, laying, opening, working, makes, lays, opens, works, ends_of}

abbrev sum : Rule
sum = record { join = λ v k. v + k; reach = λ b. b }

lawful : Lawful sum.join sum.reach
lawful = record {
  rises = λ v k l. omega arith;
  monotone = λ v w k l e. omega arith;
  within = λ v k b l e. omega arith;
  bounded = λ b l. omega arith;
}

abbrev queue : Meaning
queue = record { waits = None ∷ None ∷ None ∷ None ∷ []; floor = 7; band = 3 }

abbrev ready : JobState
ready = laid (made 2 3) 0 1 1

abbrev s0 : JobState
s0 = opened ready queue 3

abbrev q0 : Meaning
q0 = start_queue 2 2 queue

abbrev e0 : Entry
e0 = record { item = 0; key = 0 }

abbrev e1 : Entry
e1 = record { item = 3; key = 0 }

abbrev e2 : Entry
e2 = record { item = 1; key = 1 }

abbrev s1 : JobState
s1 = after_unit sum.join s0 q0 e0

abbrev q1 : Meaning
q1 = queue_after sum.join s0 q0 e0

abbrev s2 : JobState
s2 = after_unit sum.join s1 q1 e1

abbrev q2 : Meaning
q2 = queue_after sum.join s1 q1 e1

abbrev s3 : JobState
s3 = after_unit sum.join s2 q2 e2

abbrev q3 : Meaning
q3 = queue_after sum.join s2 q2 e2

l0 : Least q0 (Some e0)
l0 = (refl, λ j l e. omega arith)

l1 : Least q1 (Some e1)
l1 = (refl, λ j l e. omega arith)

low2 : (j l : ℕ) → key_of q2 j ≡ Some l → 1 ≤ l
low2 zero l e = clash refl e
low2 (suc zero) l e = let same : 1 ≡ l = cc in omega arith
low2 (suc (suc zero)) l e = clash refl e
low2 (suc (suc (suc zero))) l e = clash refl e
low2 (suc (suc (suc (suc j)))) l e = clash refl e

l2 : Least q2 (Some e2)
l2 = (refl, low2)

l3 : Least q3 None
l3 zero = refl
l3 (suc zero) = refl
l3 (suc (suc zero)) = refl
l3 (suc (suc (suc zero))) = refl
l3 (suc (suc (suc (suc j)))) = refl

pub run : Run (works 9 (map (ends_of s0) (e0 ∷ e1 ∷ e2 ∷ [])) ∷ opens ∷ lays ∷ makes ∷ []) s3 q3 sum
run = working (Some e0) 9 (e0 ∷ e1 ∷ e2 ∷ []) (opening (laying 0 1 1 (making 2 3 (start queue sum) refl) refl) lawful refl) l0 refl
    (unit l0 refl (unit l1 refl (unit l2 refl (empty l3))))

pub over : is_finished s3 ≡ true
over = refl

pub three : settled_in s3.table ≡ 3
three = refl
