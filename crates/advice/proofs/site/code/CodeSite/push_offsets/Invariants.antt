use Rattle.std.proofs.Common.{◌≡◌, false}
use Rattle.std.specs.List.{list_any}
use Rattle.model.specs.CodeParts.{count_from}
use Rattle.classfile.specs.View.{code_of}
use Rattle.advice.specs.Wrong.{is_end, is_offset_wrong}
use Rattle.advice.specs.declared.told.ToldPlace.TheVariants as places
use Rattle.advice.proofs.TellingLaws.{TellsBelow}
use Rattle.advice.proofs.site.code.CodeSite.push_offsets.Given as goal

abbrev pub invariant-loop-pc : goal.invariant-loop-pc
invariant-loop-pc l = record {
  tells : TellsBelow l.initial.told.items l.told.items l.self.site.now.number (λ pc. places.Instruction l.self.number pc)
      (is_offset_wrong l.self.site.now.facts.0 l.self.site.now.facts.1 (code_of l.self.code.now)) l.pc;
  no_end : list_any (is_end (code_of l.self.code.now).code) (count_from 0 l.pc) ≡ false;
}
