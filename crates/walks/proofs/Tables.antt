-- Lists that keep pairs by their items.
-- Assumes nothing.
use Rattle.std.proofs.Common.{◌≡◌, ℕ, ◌/◌, ◌%◌, ◌<◌, Bool, true, false, cond, ltb, List, get_or, set, Some, None, Option, sym, refl, ap, ◌∙◌, inl, inr, le_trans}
use lib.Arith.{digits_lt, digits_div, digits_mod}
use Rattle.std.proofs.lemmas.List.{get_or-set_same, get_or-set_other}
use Rattle.std.proofs.lemmas.Bool.{ltb-true, lt-ltb}
use Rattle.walks.specs.Hall.{Hall}
use Rattle.walks.specs.Search.{Apart}
use Rattle.walks.specs.Units.{item}
use Rattle.walks.specs.Table.{at, Roomy, TabledOpens, TabledDraws, TabledKeeps, TabledLowers}
use Rattle.walks.proofs.Places.{clash}

module _ (h : Hall) where
  pub at_here : (xs : List (Option ℕ)) (u v : ℕ) → u < h.points → v < h.points → at h xs u v ≡ get_or xs (item h u v) None
  at_here xs u v lu lv = rw (lt-ltb u h.points lu, lt-ltb v h.points lv)

  pub at_some : (xs : List (Option ℕ)) (u v x : ℕ) → at h xs u v ≡ Some x →
      (u < h.points) × (v < h.points) × (get_or xs (item h u v) None ≡ Some x)
  at_some xs u v x e = rows (ltb u h.points) (ltb v h.points) refl refl e
    where
      rows : (a b : Bool) → ltb u h.points ≡ a → ltb v h.points ≡ b →
          cond a (cond b (get_or xs (item h u v) None) None) None ≡ Some x →
          (u < h.points) × (v < h.points) × (get_or xs (item h u v) None ≡ Some x)
      rows true true ea eb f = (ltb-true u h.points ea, ltb-true v h.points eb, f)
      rows true false ea eb f = clash refl f
      rows false b ea eb f = clash refl f

  pub at_none : (xs : List (Option ℕ)) (u v : ℕ) → ((j : ℕ) → get_or xs j None ≡ None) → at h xs u v ≡ None
  at_none xs u v none = held (at h xs u v) refl
    where
      held : (o : Option ℕ) → at h xs u v ≡ o → at h xs u v ≡ None
      held None e = e
      held (Some x) e = clash (none (item h u v)) (at_some xs u v x e).2

  -- items of two pairs are the same only if the pairs are
  pub one_item : (a b u v : ℕ) → b < h.points → v < h.points → item h a b ≡ item h u v → (a ≡ u) × (b ≡ v)
  one_item a b u v lb lv e = (
    sym (digits_div a lb) ∙ ap (λ j. j / h.points) e ∙ digits_div u lv,
    sym (digits_mod a lb) ∙ ap (λ j. j % h.points) e ∙ digits_mod u lv,
  )

  module _ (xs : List (Option ℕ)) (u v : ℕ) (o : Option ℕ) (lv : v < h.points) where
    pub at_set : u < h.points → Roomy h xs → at h (set xs (item h u v) o) u v ≡ o
    at_set lu room =
        at_here (set xs (item h u v) o) u v lu lv ∙ get_or-set_same xs (item h u v) o None (le_trans (digits_lt lu lv) room)

    pub at_set_apart : (a b : ℕ) → Apart a b u v → at h (set xs (item h u v) o) a b ≡ at h xs a b
    at_set_apart a b apart = rows (ltb a h.points) (ltb b h.points) refl
      where
        rows : (c d : Bool) → ltb b h.points ≡ d →
            cond c (cond d (get_or (set xs (item h u v) o) (item h a b) None) None) None ≡
            cond c (cond d (get_or xs (item h a b) None) None) None
        rows true true e =
            get_or-set_other xs (item h u v) (item h a b) o None
            (λ same. apart (one_item a b u v (ltb-true b h.points e) lv same))
        rows true false e = refl
        rows false d e = refl

pub opens : TabledOpens
opens h values keys lasts no_value no_last own others = record {
  settled = λ u v. at_none h values u v no_value;
  last = λ u v. at_none h lasts u v no_last;
  own = λ u l. at_here h keys u u l l ∙ own u l;
  others = λ u v k e.
      let (lu, lv, f) = at_some h keys u v k e in
      let (a, la, same) = others (item h u v) k f in
      let (pu, pv) = one_item h u v a a lv la same in
      (lu, pu ∙ sym pv);
}

pub draws : TabledDraws
draws h values keys lasts u v k lu lv room room' waited lowest = record {
  waited = at_here h keys u v lu lv ∙ waited;
  lowest = λ a b l e. lowest (item h a b) l (at_some h keys a b l e).2;
  settled = at_set h values u v (Some k) lv lu room;
  gone = at_set h keys u v None lv lu room';
  settled_same = at_set_apart h values u v (Some k) lv;
  waits_same = at_set_apart h keys u v None lv;
  last_same = λ a b. refl;
}

pub keeps : TabledKeeps
keeps h values keys lasts u w key i lu lw low = record {
  settled_same = λ a b. refl;
  waits_same = λ a b apart. refl;
  last_same = λ a b apart. refl;
  cases = inl (record {
    low = elim low [
      | inl p ↦ inl (p.0, at_here h values u w lu lw ∙ p.1)
      | inr p ↦ inr (p.0, at_here h keys u w lu lw ∙ p.1, p.2)
    ];
    waits = refl;
    last = refl;
  });
}

pub lowers : TabledLowers
lowers h values keys lasts u w key i lu lw room room' new higher = record {
  settled_same = λ a b. refl;
  waits_same = at_set_apart h keys u w (Some key) lw;
  last_same = at_set_apart h lasts u w (Some i) lw;
  cases = inr (record {
    unsettled = at_here h values u w lu lw ∙ new;
    higher = λ l e. higher l (at_some h keys u w l e).2;
    waits = at_set h keys u w (Some key) lw lu room;
    last = at_set h lasts u w (Some i) lw lu room';
  });
}
