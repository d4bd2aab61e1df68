use Rattle.std.proofs.Common.{rules, arith, ◌≡◌, List, Bool, get_or, length, true, false, sym, ap, subst, below_more}
use Rattle.classfile.proofs.profile.instruction.first_flaw.Goals as goal
use Rattle.classfile.proofs.profile.instruction.first_flaw.Goals.{then-is_start+in_default, else-is_start}
use Rattle.opcodes.proofs.Marked.{mark_within}

pub loop-pc-preserved : goal.loop-pc-preserved
loop-pc-preserved c =
    let marks = c.args.marks.now in
    let pc = c.loop-pc.pc in
    elim c.if-is_start.branch [
      | then-is_start+in_default w ↦ below_more _ _ c.loop-pc.invariant (λ m. w.in_default.ensures)
      | else-is_start w ↦
          let unmarked : get_or marks pc false ≡ false = search rules in
          below_more _ _ c.loop-pc.invariant (λ m. absurd cc)
    ]

pub returns : goal.returns
returns c k start =
    let marked : get_or c.args.marks.now k false ≡ true = subst (λ (ms : List Bool). get_or ms k false ≡ true) (sym c.requires.marked) start in
    c.loop-pc.invariant k (omega (arith, mark_within c.args.marks.now k marked)) marked
