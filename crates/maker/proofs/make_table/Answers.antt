use Rattle.maker.proofs.Making.{wheel_suits}
use Rattle.maker.proofs.make_table.Goals as goal

pub finish-requires : goal.finish-requires
finish-requires c =
    let new = c.in_ok-queue.ensures c.new-ring.ensures.keeps in
    record { sound = new.0; suits = wheel_suits _ _ c.new-ring.ensures.made new.1; ready = c.requires }
