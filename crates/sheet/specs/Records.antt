-- Records, and the fields that they are made of.
--   number_of     the number of a field: what its figures spell
--   PartAt        a field is the part of the sheet at a place, and is as its number is written
--   behind        where the field after another begins
--   kind_of       which line a record is
--   numbers       the numbers of a record's fields
--   Parts         the fields of a record are parts of the sheet one behind the other, the first at a place
use Rattle.std.specs.Prelude.{◌≡◌, ℕ, ◌+◌, List, [], ◌∷◌, length, take, drop, decimal}
use Rattle.sheet.specs.Numbers.{spelled}
use Rattle.sheet.specs.declared.Field.{Field}
use Rattle.sheet.specs.declared.Kind.{Kind}
use Rattle.sheet.specs.declared.Kind.TheVariants.{Start, Leg, End}
use Rattle.sheet.specs.declared.Record.{Record}
use Rattle.sheet.specs.declared.Record.TheVariants.{Start as AStart, Leg as ALeg, End as AnEnd}

abbrev pub number_of : Field → ℕ
number_of f = spelled f.figures.now

pub record PartAt (sheet : List ℕ) (at : ℕ) (f : Field) : Type 0 where
  pub place : f.at ≡ at
  pub part : f.figures.now ≡ take (length f.figures.now) (drop at sheet)
  pub plain : f.figures.now ≡ decimal (number_of f)

abbrev pub kind_of : Record → Kind
kind_of (AStart p b) = Start
kind_of (ALeg f t c) = Leg
kind_of (AnEnd m) = End

abbrev pub numbers : Record → List ℕ
numbers (AStart p b) = number_of p ∷ number_of b ∷ []
numbers (ALeg f t c) = number_of f ∷ number_of t ∷ number_of c ∷ []
numbers (AnEnd m) = number_of m ∷ []

abbrev pub behind : Field → ℕ
behind f = f.at + length f.figures.now + 1

abbrev pub Parts : List ℕ → ℕ → Record → Type 0
Parts sheet at (AStart p b) = PartAt sheet at p × PartAt sheet (behind p) b
Parts sheet at (ALeg f t c) = PartAt sheet at f × PartAt sheet (behind f) t × PartAt sheet (behind t) c
Parts sheet at (AnEnd m) = PartAt sheet at m
