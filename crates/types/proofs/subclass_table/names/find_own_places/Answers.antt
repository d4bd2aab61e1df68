use Rattle.std.proofs.Common.{◌≡◌, ◌∙◌, ℕ, Some, ⊎_elim, sym, ap, arith}
use Rattle.std.proofs.lemmas.Bool.{cases_lt}
use Rattle.std.proofs.lemmas.Option.{slice_get_within}
use Rattle.classfile.specs.View.{file_of}
use Rattle.hierarchy.specs.Places.{class_at, place_of}
use Rattle.model.specs.Tree.{FileTree}
use Rattle.model.specs.Classes.{name_of, classes_of}
use Rattle.types.proofs.subclass_table.names.find_own_places.Goals as goal

pub loop-place-preserved : goal.loop-place-preserved
loop-place-preserved c = λ place file less at. ⊎_elim
    (λ old. c.loop-place.invariant place file old at)
    (λ new.
    let last : place ≡ c.loop-place.place = omega (arith, less, new) in
    let both : Some file ≡ Some (file_of c.in-Some.file.now) = sym at ∙ ap (class_at c.args.set.now) last ∙ sym c.in-Some.ensures in
    let same : file ≡ file_of c.in-Some.file.now = cc in
    ap (λ (f : FileTree). place_of c.args.set.now (name_of f)) same ∙ ap (place_of c.args.set.now) (sym c.class_name.ensures)
    ∙ c.is_found_at.ensures c.if-not-is_found_at.false ∙ ap (λ (n : ℕ). Some n) (sym last))
    (cases_lt place c.loop-place.place)

pub returns : goal.returns
returns c = λ always place file at. c.loop-place.invariant place file (let less = slice_get_within (classes_of c.args.set.now) place file at in omega (arith, less, c.loop-place-test.false, c.count-place-end.ensures)) at
