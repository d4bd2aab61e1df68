use Rattle.std.proofs.Common.{◌≡◌, ◌++◌, ◌∙◌, List, ℕ, ap}
use Rattle.std.specs.List.{flat_map}
use Rattle.class_tree.specs.View.{code_of}
use Rattle.model.specs.InstructionStarts.{starts}
use Rattle.library_files.specs.Needs.{caught_classes, code_classes}
use Rattle.library_files.specs.Parts.{marked_classes}
use Rattle.library_files.proofs.Needing.{on_ok, adds_both, adds_same, code_by_parts}
use Rattle.library_files.proofs.needs.need_code.Goals as goal

pub returns : goal.returns
returns c =
    let pool = c.args.file.now.pool in
    let code = code_of c.args.code.now in
    let marks = c.deref-3.result.now in
    let are : marks ≡ starts code.code = c.deref-3.ensures.value ∙ c.in_ok-marks.ensures.marks ∙ ap starts c.deref.ensures.value in
    let list : marked_classes pool c.deref-2.result.now 0 marks ++ flat_map (caught_classes pool) c.deref-4.result.now ≡ code_classes pool code =
    rw (c.deref-2.ensures.value, c.deref-4.ensures.value) (code_by_parts pool code marks are) in
    on_ok c.need_all_caught.result
    (λ adds. adds_same pool c.args.texts.now c.need_all_caught.new.texts _ _ list (adds_both pool c.args.texts.now c.need_marked.new.texts c.need_all_caught.new.texts _ _ c.in_ok-need_marked.ensures adds))
    c.need_all_caught.ensures
