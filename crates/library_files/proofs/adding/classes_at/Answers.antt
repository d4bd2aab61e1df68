use Rattle.std.proofs.Common.{◌≡◌, ◌∙◌, [], ◌∷◌, ◌++◌, List, true, false, sym, ap}
use Rattle.std.specs.declared.vec.Vec.{Vec}
use Rattle.std.specs.Global.{Global}
use Rattle.std.proofs.lemmas.List.{append-nil}
use Rattle.library_files.specs.declared.library_class.LibraryClass.{LibraryClass}
use Rattle.library_files.specs.Offers.{is_among}
use Rattle.library_files.proofs.Turns.{kept_more}
use Rattle.library_files.proofs.adding.classes_at.Goals.{then-is_among+in_ok-push, else-is_among}
use Rattle.library_files.proofs.adding.classes_at.Goals as goal

pub loop-place-preserved : goal.loop-place-preserved
loop-place-preserved c =
    let d : LibraryClass = record { name = record { ref_ptr = (0, 0); now = [] }; bytes = record { ref_ptr = (0, 0); now = [] } } in
    elim c.if-is_among.branch [
      | then-is_among+in_ok-push w ↦
          kept_more (is_among c.args.places.now) c.args.library.now c.loop-place.place d c.loop-place.classes.items c.if-is_among.classes.items true c.loop-place-test.true (sym c.is_among.ensures ∙ w.if-is_among.true)
          (ap (λ (v : Vec LibraryClass Global). v.items) w.classes-is ∙ w.in_ok-push.ensures.items) c.loop-place.invariant
      | else-is_among w ↦
          kept_more (is_among c.args.places.now) c.args.library.now c.loop-place.place d c.loop-place.classes.items c.if-is_among.classes.items false c.loop-place-test.true (sym c.is_among.ensures ∙ w.if-is_among.false)
          (ap (λ (v : Vec LibraryClass Global). v.items) w.classes-is ∙ sym (append-nil c.loop-place.classes.items)) c.loop-place.invariant
    ]
