use Rattle.std.proofs.Common.{◌≡◌, ℕ, true, false, List, length, is_ok, sym, ap, refl, ◌∙◌, subst, arith, MutBor}
use Rattle.std.proofs.lemmas.Bool.{cond-true, cond-false}
use Rattle.std.proofs.lemmas.Bool.Decides.{nat_tests}
use Rattle.chains.specs.declared.Chain.{Chain}
use Rattle.chains.specs.declared.cells.Cell.{Cell}
use Rattle.ring.specs.Standing.{fits, fresh, meant, Blank, Standing}
use Rattle.ring.proofs.Stands.{blank_meant, blank_stands}
use Rattle.ring.proofs.Ring.over.Goals as goal
use Rattle.ring.proofs.Ring.over.Goals.{in-Ok, in-Err}

-- what the memory that a ring takes makes of it
record Begins (slots cells : ℕ) (m : MutBor (List Chain) × MutBor (List Cell)) : Type 0 where
  made : meant m.0.now m.1.now 0 ≡ fresh slots cells
  keeps : Standing m.0.now m.1.now 0 0

whole : (m : MutBor (List Chain) × MutBor (List Cell)) → Blank m.0.now m.1.now → fits (length m.0.now) (length m.1.now) ≡ true
    → Begins (length m.0.now) (length m.1.now) m
whole m b f = record {
  made = blank_meant b ∙ sym (cond-true (fits (length m.0.now) (length m.1.now)) _ _ f);
  keeps = blank_stands b (grind (arith, nat_tests)) (grind (arith, nat_tests)) (λ p. grind (arith, nat_tests)) (λ p. grind (arith, nat_tests));
}

begins : (c : goal.Joined-trial) → Blank c.args.slots.now c.args.cells.now → Begins (length c.args.slots.now) (length c.args.cells.now) c.match-trial.slots
begins c b = elim c.match-trial.branch [
  | in-Ok w ↦ subst (Begins _ _) (sym w.slots-is) (whole (c.args.slots, c.args.cells) b (sym c.trial.ensures ∙ ap is_ok w.in-Ok.is))
  | in-Err w ↦
      let f : fits (length c.args.slots.now) (length c.args.cells.now) ≡ false = sym c.trial.ensures ∙ ap is_ok w.in-Err.is in
      subst (Begins _ _) (sym w.slots-is) (record {
        made = sym (cond-false (fits (length c.args.slots.now) (length c.args.cells.now)) _ _ f);
        keeps = blank_stands (record { no_head = λ s. refl; no_key = λ i. refl }) (omega arith) (omega arith) (λ p. p) (λ p. p);
      })
]

pub returns : goal.returns
returns c = record { made = λ b. (begins c b).made; keeps = λ b. (begins c b).keeps }
