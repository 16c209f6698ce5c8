-- What a call's answer tells: a refused call was due its refusal and left things the same, an accepted one had none due.
-- So every outcome of a call that a contract gives by `Answers` has its place in the lists of calls.
-- Assumes nothing.
use Rattle.std.proofs.Common.{◌≡◌, ℕ, Bool, true, false, not, Some, None, Ok, Err, Option, sym, refl, ap, arith}
use Rattle.std.proofs.lemmas.Bool.{not-false}
use Rattle.model.specs.declared.Refusal.{Refusal}
use Rattle.model.specs.Refusals.{due, Answers}

module _ {T E : Type 0} (why : E → Refusal) (Same : Type 0) (Done : T → Type 0) where
  pub accepted : (o : Option Refusal) (x : T) → Answers o why (Ok x) Same Done → (o ≡ None) × Done x
  accepted None x done = (refl, done)
  accepted (Some e) x done = absurd done

  pub refused : (o : Option Refusal) (x : E) → Answers o why (Err x) Same Done → (o ≡ Some (why x)) × Same
  refused None x kept = absurd kept
  refused (Some e) x (is, kept) = (ap (λ r. Some r) (sym is), kept)

-- a case that is not due, and those after it
pub not_due : (b : Bool) (why : Refusal) (later : Option Refusal) → due b why later ≡ None → (b ≡ false) × (later ≡ None)
not_due false why later e = (refl, e)
not_due true why later e = let z : ◌≡◌ {A = ℕ} 0 1 = cc in absurd (omega arith)

pub holds_true : (b : Bool) (why : Refusal) (later : Option Refusal) → due (not b) why later ≡ None → (b ≡ true) × (later ≡ None)
holds_true b why later e = let (f, rest) = not_due (not b) why later e in (not-false b f, rest)
