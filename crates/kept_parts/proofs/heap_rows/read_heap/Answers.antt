use Rattle.std.proofs.Common.{◌+◌, arith, sym, subst, refl, get_or}
use Rattle.heap.specs.Heap.{Heap}
use Rattle.kept_parts.proofs.Numbers.{AreRead, one_opening, one_behind}
use Rattle.kept_parts.proofs.heap_rows.read_heap.Goals.{then-place-opening+in_ok-read_numbered, else-place-opening+in_ok-read_numbered-2}
use Rattle.kept_parts.proofs.heap_rows.read_heap.Goals as goal

pub numbers-preserved : goal.numbers-preserved
numbers-preserved c =
    elim c.if-place-opening.branch [
      | then-place-opening+in_ok-read_numbered w ↦
          subst (λ (h : Heap). AreRead c.args.parts.now c.args.limits c.args.opening (c.numbers.place + 1) c.args.numbers.now c.args.fat.now h) (sym w.heap-is)
          (one_opening c.args.parts.now c.args.limits c.args.opening c.numbers.place (get_or c.args.numbers.now c.numbers.place 0)
          (get_or c.args.fat.now c.numbers.place 0) c.args.numbers.now c.args.fat.now c.numbers.heap w.read_numbered.new.heap c.numbers.invariant
          (omega (arith, c.numbers-test.true)) (omega (arith, c.if-fat-numbers.false)) refl refl (omega (arith, w.if-place-opening.true)) w.in_ok-read_numbered.ensures)
      | else-place-opening+in_ok-read_numbered-2 w ↦
          subst (λ (h : Heap). AreRead c.args.parts.now c.args.limits c.args.opening (c.numbers.place + 1) c.args.numbers.now c.args.fat.now h) (sym w.heap-is)
          (one_behind c.args.parts.now c.args.limits c.args.opening c.numbers.place (get_or c.args.numbers.now c.numbers.place 0)
          (get_or c.args.fat.now c.numbers.place 0) c.args.numbers.now c.args.fat.now c.numbers.heap w.read_numbered-else-place-opening.new.heap c.numbers.invariant
          (omega (arith, c.numbers-test.true)) (omega (arith, c.if-fat-numbers.false)) refl refl (omega (arith, w.if-place-opening.false)) w.in_ok-read_numbered-2.ensures)
    ]
