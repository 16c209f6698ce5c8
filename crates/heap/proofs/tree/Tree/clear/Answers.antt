use Rattle.std.proofs.Common.{rules, ◌≡◌, length, replicate, None, refl, sym, ap, ◌∙◌, arith}
use Rattle.std.proofs.lemmas.List.{length-map}
use Rattle.heap.specs.Cells.{blank}
use Rattle.heap.proofs.Sounds.{wiped_keys, empty_sound, none_waits}
use Rattle.heap.proofs.tree.Tree.clear.Goals as goal

pub returns-then-self-gt0 : goal.returns-then-self-gt0
returns-then-self-gt0 c =
    let wiped : c.fill.new.self ≡ replicate (length c.args.self.now.cells.now) blank = search rules in
    let none = wiped_keys c.fill.new.self _ wiped in
    record {
      after = λ s. none ∙ ap (λ n. replicate n None) (sym (length-map c.args.self.now.cells.now (λ d. d.key)));
      keeps = λ s. empty_sound _ _ refl none;
    }

pub returns-else-self-gt0-clause-after : goal.returns-else-self-gt0-clause-after
returns-else-self-gt0-clause-after c s = none_waits c.args.self.now s (omega arith)
