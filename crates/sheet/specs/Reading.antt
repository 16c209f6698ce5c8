-- One record of a sheet, read where a reader stands: what comes of it, and where the reader stands then.
--   Standing      what is left of the sheet, how many lines and how many legs were read, and whether the last line was
--   more          one more on a count of 32 bits, which goes round at its end; no sheet has so many lines
--   Due           which line may come: the start first, then legs and the end
--   LineRead      a line was read: what was left began with it
--   Unseparated   after i fields of w there is neither the separator due nor, behind a field, one more figure
--   Broken w      after a mark that w fields follow: whole fields, and then not what is due
--   BadField      no field begins there: no figure, a leading 0, or a sixth figure
--   BrokenLine    a mark that is due, and then something wrong
--   NoMark        no mark that is due begins the bytes
--   Miscounted    an end with another number than that of the legs
--   Faulty        the fault of form that is due
--   Outcome       a line with its numbers, the close, or a fault with its line
--   Reads         the outcome of one call, and where the reader stands after it
--   OneOutcome   there is no other outcome, and no other standing after it
use Rattle.std.specs.Prelude.{◌≡◌, ℕ, ◌+◌, ◌%◌, ◌^◌, ◌<◌, ◌≤◌, Bool, true, false, ◌⊎◌, List, [], ◌∷◌, ◌++◌, length, ◌≢◌}
use Rattle.std.specs.List.{AllByRecursion}
use Rattle.sheet.specs.Form.{Begins, Figure, letters, width, fields, Fields, written, separator}
use Rattle.sheet.specs.declared.Kind.{Kind}
use Rattle.sheet.specs.declared.Kind.TheVariants.{Start, Leg, End}
use Rattle.sheet.specs.declared.FormFault.{FormFault}
use Rattle.sheet.specs.declared.FormFault.TheVariants.{TooLong, Mark, Field, Separator, Count, Trailing}

pub record Standing : Type 0 where
  pub rest : List ℕ
  pub lines : ℕ
  pub legs : ℕ
  pub closed : Bool

-- where a reading begins
abbrev pub opening : List ℕ → Standing
opening bytes = record { rest = bytes; lines = 0; legs = 0; closed = false }

abbrev pub more : ℕ → ℕ
more n = (n + 1) % 2 ^ 32

abbrev pub Due : ℕ → Kind → Type 0
Due lines Start = lines ≡ 0
Due lines Leg = 0 < lines
Due lines End = 0 < lines

-- the legs after a line, where there were so many before it
abbrev pub legs_after : Kind → ℕ → ℕ
legs_after Start n = n
legs_after Leg n = more n
legs_after End n = n

-- only the end is the last line
abbrev pub closes : Kind → Bool
closes Start = false
closes Leg = false
closes End = true

-- the end's number is the number of legs
abbrev pub Counted : Kind → List ℕ → ℕ → Type 0
Counted Start ks n = Unit {0}
Counted Leg ks n = Unit {0}
Counted End ks n = ks ≡ n ∷ []

pub record LineRead (s : Standing) (kind : Kind) (ks : List ℕ) (t : Standing) : Type 0 where
  pub going : s.closed ≡ false
  pub due : Due s.lines kind
  pub count : length ks ≡ width kind
  pub small : Fields ks
  pub bytes : s.rest ≡ written kind ks ++ t.rest
  pub counted : Counted kind ks s.legs
  pub lines : t.lines ≡ more s.lines
  pub legs : t.legs ≡ legs_after kind s.legs
  pub closed : t.closed ≡ closes kind

abbrev pub BadField : List ℕ → Type 0
BadField bs =
    (Begins Figure bs → ⊥) ⊎
    (((d : ℕ) × (tail : List ℕ) × (bs ≡ 48 ∷ d ∷ tail) × Figure d) ⊎
    ((six tail : List ℕ) × (bs ≡ six ++ tail) × (length six ≡ 6) × AllByRecursion Figure six))

abbrev pub Unseparated : ℕ → ℕ → List ℕ → Type 0
Unseparated w i tail = (Begins (λ b. b ≡ separator w i) tail → ⊥) × (0 < i → Begins Figure tail → ⊥)

abbrev pub Broken : ℕ → List ℕ → FormFault → Type 0
Broken w bs Separator =
    (ks tail : List ℕ) × (length ks ≤ w) × Fields ks × (bs ≡ fields ks ++ tail) × Unseparated w (length ks) tail
Broken w bs Field =
    (ks tail : List ℕ) × (length ks < w) × Fields ks × (bs ≡ fields ks ++ (32 ∷ tail)) × BadField tail
Broken w bs TooLong = ⊥
Broken w bs Mark = ⊥
Broken w bs Count = ⊥
Broken w bs Trailing = ⊥

abbrev pub BrokenLine : ℕ → List ℕ → FormFault → Type 0
BrokenLine lines bs f =
    (kind : Kind) × (tail : List ℕ) × Due lines kind × (bs ≡ letters kind ++ tail) × Broken (width kind) tail f

abbrev pub NoMark : ℕ → List ℕ → Type 0
NoMark lines bs = (kind : Kind) → Due lines kind → (tail : List ℕ) → bs ≢ letters kind ++ tail

abbrev pub Miscounted : ℕ → ℕ → List ℕ → Type 0
Miscounted lines legs bs =
    (m : ℕ) × (tail : List ℕ) × (0 < lines) × (m < 100000) × (bs ≡ written End (m ∷ []) ++ tail) × (m ≢ legs)

-- what is wrong with the line that is due
abbrev pub LineFaulty : ℕ → ℕ → List ℕ → FormFault → Type 0
LineFaulty lines legs bs TooLong = ⊥
LineFaulty lines legs bs Mark = NoMark lines bs
LineFaulty lines legs bs Field = BrokenLine lines bs Field
LineFaulty lines legs bs Separator = BrokenLine lines bs Separator
LineFaulty lines legs bs Count = Miscounted lines legs bs
LineFaulty lines legs bs Trailing = ⊥

-- the line that is due is at fault, or bytes follow the last line
abbrev pub Faulty : Standing → FormFault → Type 0
Faulty s f =
    ((s.closed ≡ false) × LineFaulty s.lines s.legs s.rest f) ⊎
    ((s.closed ≡ true) × (f ≡ Trailing) × (s.rest ≢ []))

pub data Outcome : Type 0 where
  line : Kind → List ℕ → Outcome
  close : Outcome
  fault : FormFault → ℕ → Outcome

abbrev pub Reads : Standing → Outcome → Standing → Type 0
Reads s (line kind ks) t = LineRead s kind ks t
Reads s close t = (s.closed ≡ true) × (s.rest ≡ []) × (t ≡ s)
Reads s (fault f n) t = Faulty s f × (n ≡ more s.lines) × (t ≡ s)

abbrev pub OneOutcome : Standing → Type 0
OneOutcome s = (o p : Outcome) (t u : Standing) → Reads s o t → Reads s p u → (o ≡ p) × (t ≡ u)
