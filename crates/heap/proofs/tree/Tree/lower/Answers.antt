use Rattle.std.proofs.Common.{◌≡◌, set, Some, sym, ap, ◌∙◌, arith}
use Rattle.std.proofs.lemmas.List.{length-map}
use Rattle.queue.specs.Meaning.{held}
use Rattle.queue.proofs.Meanings.{held_lower}
use Rattle.heap.specs.Cells.{keys}
use Rattle.heap.specs.Contents.{waits}
use Rattle.heap.proofs.Rows.{keys_read, keyed_keys, item_inside}
use Rattle.heap.proofs.Edits.{lowered}
use Rattle.heap.proofs.tree.Tree.lower.Goals as goal

pub returns : goal.returns
returns c =
    let t = c.args.self.now in
    let after : waits c.sift_up.new.self ≡ set (waits t) c.args.item (Some c.args.key) =
    c.sift_up.ensures.same ∙ ap keys c.set_key.ensures ∙ keyed_keys t.cells.now c.args.item _ in
    record {
      after = after;
      keeps = λ old s some low.
          let waited = sym (keys_read t.cells.now c.args.item) ∙ some in
          let len = length-map t.cells.now (λ d. d.key) in
          let inside = item_inside t.cells.now c.args.item old waited in
          let v =
          lowered t.cells.now _ t.count c.args.item old c.args.key c.cell-place.result.place
          (ap (λ d. d.place) c.cell-place.ensures) c.set_key.ensures s.heaped waited low in
          record {
            heaped = c.sift_up.ensures.keeps v.0 v.1;
            counted =
                let same = held_lower (waits t) c.args.item c.args.key old (omega arith) some in
                let now = ap held after in
                let was = s.counted in
                omega arith;
          };
    }
