use Rattle.constant_pool.proofs.descriptors.method.+read_slots.Given as goal

abbrev pub decreases-read_slots : goal.decreases-read_slots
decreases-read_slots l = l.left
