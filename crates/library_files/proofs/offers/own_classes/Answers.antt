use Rattle.std.proofs.Common.{◌∙◌, [], true, false, map, sym, ap}
use Rattle.std.specs.declared.vec.Vec.{Vec}
use Rattle.std.specs.Global.{Global}
use Rattle.std.proofs.lemmas.List.{append-nil}
use Rattle.class_tree.specs.View.{file_of}
use Rattle.library_files.specs.declared.library_class.LibraryClass.{LibraryClass}
use Rattle.library_files.proofs.Own.{own_more}
use Rattle.library_files.proofs.offers.own_classes.Goals.{then-is_declared+in_ok-push, else-is_declared}
use Rattle.library_files.proofs.offers.own_classes.Goals as goal

pub loop-class-preserved : goal.loop-class-preserved
loop-class-preserved c =
    let files = map file_of c.args.files.now in
    let d : LibraryClass = record { name = record { ref_ptr = (0, 0); now = [] }; bytes = record { ref_ptr = (0, 0); now = [] } } in
    elim c.if-is_declared.branch [
      | then-is_declared+in_ok-push w ↦
          own_more files c.args.library.now c.loop-class.class-index d c.loop-class.own.items c.if-is_declared.own.items true c.loop-class-test.true (sym c.is_declared.ensures ∙ w.if-is_declared.true) (ap (λ (v : Vec LibraryClass Global). v.items) w.own-is ∙ w.in_ok-push.ensures.items) c.loop-class.invariant
      | else-is_declared w ↦
          own_more files c.args.library.now c.loop-class.class-index d c.loop-class.own.items c.if-is_declared.own.items false c.loop-class-test.true (sym c.is_declared.ensures ∙ w.if-is_declared.false) (ap (λ (v : Vec LibraryClass Global). v.items) w.own-is ∙ sym (append-nil c.loop-class.own.items)) c.loop-class.invariant
    ]
