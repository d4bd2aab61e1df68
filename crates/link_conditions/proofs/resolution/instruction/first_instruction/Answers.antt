use Rattle.std.proofs.Common.{rules, arith, ◌≡◌, get_or, false, below_more}
use Rattle.classfile.specs.View.{code_of, file_of}
use Rattle.link_conditions.specs.resolution.Unresolved.{instruction_stands}
use Rattle.opcodes.proofs.Marked.{none_of_marks}
use Rattle.link_conditions.proofs.resolution.instruction.first_instruction.Goals as goal
use Rattle.link_conditions.proofs.resolution.instruction.first_instruction.Goals.{else-is_start-via-then-is_start+else-is_unresolved_at, else-is_start-via-else-is_start}

pub loop-pc-preserved : goal.loop-pc-preserved
loop-pc-preserved c =
    elim c.else-is_start.branch [
      | else-is_start-via-then-is_start+else-is_unresolved_at w ↦
          let found : instruction_stands c.args.hierarchy.now (file_of c.args.file.now) (code_of c.args.code.now) c.loop-pc.pc ≡ false = search rules in
          below_more _ _ c.loop-pc.invariant (λ m. found)
      | else-is_start-via-else-is_start w ↦
          let unmarked : get_or c.args.marks.now c.loop-pc.pc false ≡ false = search rules in
          below_more _ _ c.loop-pc.invariant (λ m. absurd cc)
    ]

pub returns : goal.returns
returns c =
    none_of_marks (instruction_stands c.args.hierarchy.now (file_of c.args.file.now) (code_of c.args.code.now)) c.args.code.now.code.items c.args.marks.now c.requires.marked
    (λ k below. c.loop-pc.invariant k (omega (arith, below)))
