use Rattle.std.proofs.Common.{◌≡◌, ◌∙◌, sym, ap}
use Rattle.std.proofs.lemmas.Bool.{eq-eqb}
use Rattle.model.specs.Names.{name_eq, java_lang_object}
use Rattle.hierarchy.specs.Places.{name_at}
use Rattle.types.proofs.Classes.{object_at}
use Rattle.types.proofs.class.is_object.Goals as goal
use Rattle.hierarchy.proofs.RowLaws.{name_eq_refl}

pub returns-then-class-eq-OBJECT : goal.returns-then-class-eq-OBJECT
returns-then-class-eq-OBJECT c =
    let files = c.args.set.now in
    let e : c.args.class ≡ 0 = c.if-class-eq-OBJECT.true in
    eq-eqb c.args.class 0 e ∙ sym (ap (λ p. name_eq (name_at files p) java_lang_object) e ∙ ap (λ n. name_eq n java_lang_object) (object_at files) ∙ name_eq_refl java_lang_object)
