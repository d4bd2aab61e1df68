use Rattle.std.proofs.Common.{◌∙◌, sym, ap, Some, None, cond}
use Rattle.model.specs.Names.{java_lang_object}
use Rattle.model.specs.Classes.{is_subclass}
use Rattle.model.specs.ReferenceTypes.{ClassType}
use Rattle.hierarchy.specs.Places.{name_at}
use Rattle.types.proofs.Classes.{object_at}
use Rattle.types.proofs.join.object_above.Goals as goal

pub returns-then-is_subclass : goal.returns-then-is_subclass
returns-then-is_subclass c =
    let files = c.args.set.now in
    let class = name_at files c.args.class in
    let below = ap (λ n. is_subclass files class n) (sym (object_at files)) ∙ sym c.is_subclass.ensures ∙ c.if-is_subclass.true in
    ap (λ n. Some (ClassType n)) (object_at files) ∙ sym (ap (λ b. cond b (Some (ClassType java_lang_object)) None) below)

pub returns : goal.returns
returns c =
    let files = c.args.set.now in
    let class = name_at files c.args.class in
    let below = ap (λ n. is_subclass files class n) (sym (object_at files)) ∙ sym c.is_subclass.ensures ∙ c.if-is_subclass.false in
    sym (ap (λ b. cond b (Some (ClassType java_lang_object)) None) below)
