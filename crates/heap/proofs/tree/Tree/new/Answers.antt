use Rattle.std.proofs.Common.{rules, ◌≡◌, length, replicate, refl}
use Rattle.heap.specs.Cells.{blank}
use Rattle.heap.proofs.Sounds.{wiped_keys, empty_sound}
use Rattle.heap.proofs.tree.Tree.new.Goals as goal

pub returns : goal.returns
returns c =
    let wiped : c.fill.new.self ≡ replicate (length c.args.cells.now) blank = search rules in
    let none = wiped_keys c.fill.new.self _ wiped in
    record { value = none; keeps = empty_sound _ _ refl none }
