use Rattle.std.proofs.Common.{◌≡◌, suc, ◌-◌, length}
use Rattle.model.specs.Classes.{classes_of}
use Rattle.model.specs.TypeJoin.{common_within, class_join}
use Rattle.hierarchy.specs.Places.{name_at}
use Rattle.types.proofs.class.join_by_search.Given as goal

abbrev pub invariant-loop-place : goal.invariant-loop-place
invariant-loop-place l =
    common_within l.set (suc (length (classes_of l.set)) - l._place) (name_at l.set l.class) (name_at l.set l.d) ≡ class_join l.set (name_at l.set l.c) (name_at l.set l.d)
