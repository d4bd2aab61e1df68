use Rattle.std.proofs.Common.{◌≡◌, ℕ, false, length, arith, ap, sym, ◌∙◌, Option}
use Rattle.std.specs.Option.{option_map_or}
use Rattle.model.specs.Tree.{FileTree}
use Rattle.model.specs.Classes.{classes_of}
use Rattle.hierarchy.specs.Places.{class_at}
use Rattle.link_conditions.specs.class_rules.Declared.{has_untold}
use Rattle.link_conditions.proofs.class_rules.Suspected.{one_more, all_told}
use Rattle.link_conditions.proofs.class_rules.declared_methods.is_whole.Goals as goal

pub loop-class-init : goal.loop-class-init
loop-class-init c = λ place lt. absurd (omega (arith, lt))

pub loop-class-preserved : goal.loop-class-preserved
loop-class-preserved c =
    let files = c.args.set.now in
    let table = c.args.table.now in
    let here = ap (λ (o : Option FileTree). option_map_or (has_untold table c.loop-class.class) o false) (sym c.in-Some.ensures) ∙ (sym c.has_untold.ensures ∙ c.if-has_untold.false) in
    one_more (λ place. option_map_or (has_untold table place) (class_at files place) false) c.loop-class.class c.loop-class.invariant here

pub returns : goal.returns
returns c =
    λ whole. all_told c.args.set.now c.args.table.now c.loop-class.class (omega (arith, c.loop-class-test.false, c.count-class-end.ensures)) c.loop-class.invariant
