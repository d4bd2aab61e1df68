use Rattle.std.proofs.Common.{◌≡◌, ◌∙◌, ◌∷◌, refl, ap, Vec, Global, Bool, false}
use Rattle.std.specs.Prelude.{slice_index_or}
use Rattle.classfile.specs.View.{file_of}
use Rattle.model.specs.Tree.{Unusable}
use Rattle.classfile.specs.profile.Faults.{TellsClassAside}
use Rattle.linker.specs.Aside.{names_method_aside, methods_aside}
use Rattle.linker.proofs.Lists.{row_is}
use Rattle.linker.proofs.aside.class_aside.Goals as goal
use Rattle.hierarchy.proofs.Indices.{ok_weaken}

pub returns : goal.returns
returns c =
    let files = c.args.set.now in
    let file = file_of c.args.file.now in
    ok_weaken (λ (rows : Vec Bool Global). rows.items ≡ methods_aside files file) (λ (rows : Vec Bool Global). TellsClassAside files file rows.items)
    (λ rows is index. ap (λ l. slice_index_or l index false) is ∙ row_is (names_method_aside files file) Unusable (Unusable ∷ file.pool) index refl)
    c.methods_aside.result (c.methods_aside.ensures files (c.deref.ensures.value ∙ c.in_ok-others.ensures))
