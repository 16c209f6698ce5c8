use Rattle.std.proofs.Common.{◌≡◌, ℕ, ◌+◌, set, Some, sym, ap, ◌∙◌, subst, arith}
use Rattle.std.proofs.lemmas.List.{length-map}
use Rattle.queue.specs.Meaning.{held}
use Rattle.queue.proofs.Meanings.{held_enter}
use Rattle.heap.specs.Cells.{keys, rank}
use Rattle.heap.specs.Order.{Linked, Rising}
use Rattle.heap.specs.Contents.{waits}
use Rattle.heap.proofs.Rows.{keys_read, keyed_keys, stood_keys}
use Rattle.heap.proofs.Edits.{entered}
use Rattle.heap.proofs.Sounds.{roomy}
use Rattle.heap.proofs.tree.Tree.enter.Goals as goal

pub returns : goal.returns
returns c =
    let t = c.args.self.now in
    let after : waits c.sift_up.new.self ≡ set (waits t) c.args.item (Some c.args.key) =
    c.sift_up.ensures.same
    ∙ ap keys c.stand.ensures
    ∙ stood_keys c.set_key.new.cells t.count c.args.item
    ∙ ap keys c.set_key.ensures
    ∙ keyed_keys t.cells.now c.args.item _ in
    record {
      after = after;
      keeps = λ s inside free.
          let len = length-map t.cells.now (λ d. d.key) in
          let room = roomy t s c.args.item inside free in
          let more : t.count + 1 ≡ c.saturating_add-self.result = omega arith in
          let P : ℕ → Type 0 = λ n. Linked c.stand.new.cells n × Rising (rank c.stand.new.cells) n t.count in
          let v =
          subst P more
          (entered _ _ _ _ _ c.args.key c.set_key.ensures c.stand.ensures s.heaped
          (sym (keys_read t.cells.now c.args.item) ∙ free) (omega arith) room) in
          record {
            heaped = c.sift_up.ensures.keeps v.0 v.1;
            counted =
                let more = held_enter (waits t) c.args.item c.args.key inside free in
                let now = ap held after in
                let was = s.counted in
                omega arith;
          };
    }
