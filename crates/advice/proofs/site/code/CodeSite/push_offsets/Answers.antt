use Rattle.std.proofs.Common.{◌≡◌, ◌+◌, false, get_or, ap, ◌∙◌, arith}
use Rattle.std.proofs.lemmas.Bool.{and_parts}
use Rattle.model.specs.InstructionStarts.{starts, is_start}
use Rattle.classfile.specs.View.{code_of}
use Rattle.advice.specs.Told.{Keeps}
use Rattle.advice.specs.Telling.{TellsEach}
use Rattle.advice.specs.Wrong.{is_offset_wrong, is_reached}
use Rattle.advice.specs.declared.told.ToldPlace.TheVariants as places
use Rattle.advice.proofs.TellingLaws.{on_ok, one_more, each_of}
use Rattle.advice.proofs.WalkLaws.{mark_is, wrong_at_mark, no_end_here, end_here, no_end_more, past_end, not_past, below_then}
use Rattle.advice.proofs.site.code.CodeSite.push_offsets.Goals as goal

pub loop-pc-preserved : goal.loop-pc-preserved
loop-pc-preserved c =
    let site = c.args.self.now.site.now in
    let code = code_of c.args.self.now.code.now in
    let pc = c.loop-pc.pc in
    let items = c.deref-is_start-items.result.now in
    let same : items ≡ starts code.code = c.deref-is_start-items.ensures.value ∙ c.in_ok-marks.ensures.marks ∙ ap starts c.deref.ensures.value in
    let mark : get_or items pc false ≡ is_start code.code pc = mark_is code.code items pc false same (omega (arith, c.loop-pc-test.true)) in
    record {
      tells = one_more _ _ _ _ (λ pc. places.Instruction c.args.self.now.number pc) (is_offset_wrong site.facts.0 site.facts.1 code) pc _
          c.loop-pc.invariant.tells c.in_ok-push_boundary.ensures.told (λ h. wrong_at_mark code.code pc _ _ mark h);
      no_end = no_end_more code.code pc c.loop-pc.invariant.no_end (no_end_here code.code pc _ _ mark c.in_ok-push_boundary.ensures.goes_on c.if-not-branch.false);
    }

pub returns : goal.returns
returns c =
    let site = c.args.self.now.site.now in
    let code = code_of c.args.self.now.code.now in
    let items = c.deref-is_start-items.result.now in
    let same : items ≡ starts code.code = c.deref-is_start-items.ensures.value ∙ c.in_ok-marks.ensures.marks ∙ ap starts c.deref.ensures.value in
    each_of _ _ _ (λ pc. places.Instruction c.args.self.now.number pc) (is_offset_wrong site.facts.0 site.facts.1 code) c.loop-pc.pc
    c.loop-pc.invariant.tells
    (λ k le h. not_past code.code items k same (omega (arith, le, c.loop-pc-test.false)) (and_parts (is_reached code.code k) _ h).0)

pub returns-then-not-branch : goal.returns-then-not-branch
returns-then-not-branch c =
    let site = c.args.self.now.site.now in
    let code = code_of c.args.self.now.code.now in
    let number = c.args.self.now.number in
    let wrong = is_offset_wrong site.facts.0 site.facts.1 code in
    let pc = c.loop-pc.pc in
    let items = c.deref-is_start-items.result.now in
    let same : items ≡ starts code.code = c.deref-is_start-items.ensures.value ∙ c.in_ok-marks.ensures.marks ∙ ap starts c.deref.ensures.value in
    let mark : get_or items pc false ≡ is_start code.code pc = mark_is code.code items pc false same (omega (arith, c.loop-pc-test.true)) in
    let here = one_more _ _ _ _ (λ pc. places.Instruction number pc) wrong pc _ c.loop-pc.invariant.tells c.in_ok-push_boundary.ensures.told
    (λ h. wrong_at_mark code.code pc _ _ mark h) in
    let ends = end_here code.code pc _ _ mark c.in_ok-push_boundary.ensures.goes_on c.if-not-branch.true in
    let between = c.push_boundary.new.told.items in
    let after = c.push_beyond.new.told.items in
    let all : Keeps between after → TellsEach c.args.told.now.items after site.number (λ pc. places.Instruction number pc) wrong =
    λ kept. each_of _ _ _ (λ pc. places.Instruction number pc) wrong (pc + 1) (below_then _ between _ _ (λ pc. places.Instruction number pc) wrong (pc + 1) here kept)
    (λ k le h. past_end code.code pc k ends.0 ends.1 (omega (arith, le)) (and_parts (is_reached code.code k) _ h).0) in
    on_ok c.push_beyond.result all c.push_beyond.ensures
