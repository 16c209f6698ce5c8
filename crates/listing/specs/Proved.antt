-- The sinks of the crate are lawful.
use Rattle.std.proofs.Common.{◌≡◌, ℕ, ◌+◌, ◌≤◌, List, [], ◌++◌, length, sym, refl, ap, ◌∙◌, add-zero, arith, length-append, length-drop, length-take}
use Rattle.std.proofs.lemmas.List.{take-append-drop}
use Rattle.std.proofs.lemmas.List.Edits.{paste_all, paste-paste}
use lib.Seq.{paste}
use Rattle.listing.specs.Buffer.{written}
use Rattle.listing.specs.Laws.{Lawful}
use Rattle.listing.specs.Sinks.{counted, wrote}

pub counted_lawful : Lawful counted
counted_lawful = record {
  none = λ s h. omega arith;
  more = λ s t u xs ys zs a b e h.
      let l : length zs ≡ length xs + length ys = ap length (sym e) ∙ length-append xs ys in
      let p : t.len ≡ s.len + length xs = a (omega arith) in
      let q : u.len ≡ t.len + length ys = b (omega arith) in
      omega arith;
}

written_paste : (b : List ℕ) (at : ℕ) (s : List ℕ) → written b at s ≡ paste b at s (length s)
unfolding written
written_paste b at s = sym (paste_all b at s (length s) refl)

written_none : (b : List ℕ) (at : ℕ) → written b at [] ≡ b
unfolding written
written_none b at = rw add-zero (take-append-drop at b)

length_written : (b : List ℕ) (at : ℕ) (s : List ℕ) → at + length s ≤ length b → length (written b at s) ≡ length b
unfolding written
length_written b at s h = simp (length-append, length-take, length-drop) (omega arith)

written_more : (b : List ℕ) (at : ℕ) (s t : List ℕ) → at ≤ length b
    → written (written b at s) (at + length s) t ≡ written b at (s ++ t)
written_more b at s t h =
    written_paste (written b at s) (at + length s) t
    ∙ ap (λ c. paste c (at + length s) t (length t)) (written_paste b at s)
    ∙ paste-paste b at s t (length s) (length t) refl refl h
    ∙ ap (paste b at (s ++ t)) (sym (length-append s t))
    ∙ sym (written_paste b at (s ++ t))

pub wrote_lawful : Lawful wrote
wrote_lawful = record {
  none = λ s. (refl, λ h. (omega arith, sym (written_none s.buffer.now s.at)));
  more = λ s t u xs ys zs a b e. (
    b.0 ∙ a.0,
    λ h.
        let l : length zs ≡ length xs + length ys = ap length (sym e) ∙ length-append xs ys in
        let p = a.1 (omega arith) in
        let k : length t.buffer.now ≡ length s.buffer.now = ap length p.1 ∙ length_written s.buffer.now s.at xs (omega arith) in
        let q = b.1 (omega arith) in (
          omega arith,
          q.1 ∙ rw (p.1, p.0) (written_more s.buffer.now s.at xs ys (omega arith) ∙ ap (written s.buffer.now s.at) e),
        ),
  );
}
