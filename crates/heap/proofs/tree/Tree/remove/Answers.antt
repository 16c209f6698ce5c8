use Rattle.std.proofs.Common.{◌≡◌, set, None, sym, ap, ◌∙◌, arith}
use Rattle.std.proofs.lemmas.List.{length-map}
use Rattle.queue.specs.Meaning.{held}
use Rattle.queue.proofs.Meanings.{held_take}
use Rattle.heap.specs.Cells.{keys, item_at, rank}
use Rattle.heap.specs.Contents.{waits}
use Rattle.heap.proofs.Rows.{keys_read, keyed_keys, stood_keys, item_inside}
use Rattle.heap.proofs.Edits.{taken}
use Rattle.heap.proofs.Sounds.{root_waits}
use Rattle.heap.proofs.tree.Tree.remove.Goals as goal

pub returns : goal.returns
returns c =
    let t = c.args.self.now in
    let after : waits c.sift_down.new.self ≡ set (waits t) c.args.item None =
    c.sift_down.ensures.same
    ∙ ap keys c.set_key.ensures
    ∙ keyed_keys c.stand.new.cells c.args.item _
    ∙ ap (λ ks. set ks c.args.item None) (ap keys c.stand.ensures ∙ stood_keys t.cells.now _ _) in
    record {
      after = after;
      keeps = λ k s some least.
          let waited = sym (keys_read t.cells.now c.args.item) ∙ some in
          let below = s.heaped.linked.below c.args.item k waited in
          let low = least (item_at t.cells.now 0) (rank t.cells.now 0) (root_waits t s (omega arith)) in
          let len = length-map t.cells.now (λ d. d.key) in
          let inside = item_inside t.cells.now c.args.item k waited in
          let v =
          taken t.cells.now _ _ t.count c.args.item k _ c.saturating_sub-last.result _
          (ap (λ d. d.place) c.cell-place.ensures) c.saturating_sub-last.ensures
          (ap (λ d. d.item) c.cell-moved.ensures) c.stand.ensures c.set_key.ensures s.heaped waited low in
          record {
            heaped = c.sift_down.ensures.keeps v.0 v.1;
            counted =
                let less = held_take (waits t) c.args.item k (omega arith) some in
                let now = ap held after in
                let was = s.counted in
                omega arith;
          };
    }
