-- Pairs kept in lists, by their items.
--   at       what a list keeps of the pair (u, v): nothing outside the hall
--   tabled   the state that three lists keep: the settled values, the keys and the last legs
--   Roomy    a list has a place for every pair
--   TabledOpens    lists with no value and no last leg, and with the points' own pairs alone waiting, at 0, are an opening
--   TabledDraws    one write to the values and one to the keys is a drawing
--   TabledKeeps    no write is an offer that changes nothing
--   TabledLowers   one write to the keys and one to the last legs is an offer that enters or lowers
--   TablesStand    all four
use Rattle.std.specs.Prelude.{◌≡◌, ℕ, ◌<◌, ◌≤◌, cond, ◌⊎◌, List, length, Some, None, Option, nat_lt, slice_index_or, slice_set}
use Rattle.walks.specs.Hall.{Hall}
use Rattle.walks.specs.Search.{State, Opens, Draws, Offered}
use Rattle.walks.specs.Units.{pairs, item}

abbrev pub at : Hall → List (Option ℕ) → ℕ → ℕ → Option ℕ
at h xs u v = cond (nat_lt u h.points) (cond (nat_lt v h.points) (slice_index_or xs (item h u v) None) None) None

abbrev pub tabled : Hall → List (Option ℕ) → List (Option ℕ) → List (Option ℕ) → State
tabled h values keys lasts = record { settled = at h values; waits = at h keys; last = at h lasts }

abbrev pub Roomy : Hall → List (Option ℕ) → Type 0
Roomy h xs = pairs h ≤ length xs

abbrev pub TabledOpens : Type 0
TabledOpens = (h : Hall) (values keys lasts : List (Option ℕ)) →
    ((j : ℕ) → slice_index_or values j None ≡ None) → ((j : ℕ) → slice_index_or lasts j None ≡ None) →
    ((u : ℕ) → u < h.points → slice_index_or keys (item h u u) None ≡ Some 0) →
    ((j l : ℕ) → slice_index_or keys j None ≡ Some l → (u : ℕ) × (u < h.points) × (j ≡ item h u u)) →
    Opens h (tabled h values keys lasts)

abbrev pub TabledDraws : Type 0
TabledDraws = (h : Hall) (values keys lasts : List (Option ℕ)) (u v k : ℕ) →
    u < h.points → v < h.points → Roomy h values → Roomy h keys →
    slice_index_or keys (item h u v) None ≡ Some k → ((j l : ℕ) → slice_index_or keys j None ≡ Some l → k ≤ l) →
    Draws (tabled h values keys lasts) u v k (tabled h (slice_set values (item h u v) (Some k)) (slice_set keys (item h u v) None) lasts)

abbrev pub TabledKeeps : Type 0
TabledKeeps = (h : Hall) (values keys lasts : List (Option ℕ)) (u w key i : ℕ) → u < h.points → w < h.points →
    ((y : ℕ) × (slice_index_or values (item h u w) None ≡ Some y)) ⊎ ((l : ℕ) × (slice_index_or keys (item h u w) None ≡ Some l) × (l ≤ key)) →
    Offered (tabled h values keys lasts) u w key i (tabled h values keys lasts)

abbrev pub TabledLowers : Type 0
TabledLowers = (h : Hall) (values keys lasts : List (Option ℕ)) (u w key i : ℕ) →
    u < h.points → w < h.points → Roomy h keys → Roomy h lasts →
    slice_index_or values (item h u w) None ≡ None → ((l : ℕ) → slice_index_or keys (item h u w) None ≡ Some l → key < l) →
    Offered (tabled h values keys lasts) u w key i
    (tabled h values (slice_set keys (item h u w) (Some key)) (slice_set lasts (item h u w) (Some i)))

pub record TablesStand : Type 0 where
  pub opening : TabledOpens
  pub drawing : TabledDraws
  pub kept : TabledKeeps
  pub lowered : TabledLowers
