use Rattle.std.proofs.Common.{◌≡◌, ◌∙◌, false, is_some, sym, ap}
use Rattle.std.specs.List.{list_any}
use Rattle.model.specs.Names.{name_eq}
use Rattle.linker.proofs.linked_types.ComponentTypes.{numbered_any, grows_pushed, pushed_there, pushed_only}
use Rattle.linker.proofs.linked_types.components.add_type.Goals as goal

pub returns-then-is_some-clause-there : goal.returns-then-is_some-clause-there
returns-then-is_some-clause-there c found =
    sym (numbered_any (name_eq c.args.name.now) c.args.components.now.names) ∙ ap is_some (sym c.number_of.ensures) ∙ sym c.is_some.ensures ∙ c.if-is_some.true

pub returns-clause-grows : goal.returns-clause-grows
returns-clause-grows c =
    let name = c.args.name.now in
    let names = c.args.components.now.names in
    let absent : list_any (name_eq name) names ≡ false = sym (numbered_any (name_eq name) names) ∙ ap is_some (sym c.number_of.ensures) ∙ sym c.is_some.ensures ∙ c.if-is_some.false in
    grows_pushed c.args.set.now c.args.components.now (record { names = c.add.new.self; types = c.push.new.self }) name absent c.in_ok-add.ensures c.in-Some.linked c.in-Some.ensures.value c.in_ok-push.ensures.items

pub returns-clause-there : goal.returns-clause-there
returns-clause-there c found =
    let name = c.args.name.now in
    let names = c.args.components.now.names in
    let absent : list_any (name_eq name) names ≡ false = sym (numbered_any (name_eq name) names) ∙ ap is_some (sym c.number_of.ensures) ∙ sym c.is_some.ensures ∙ c.if-is_some.false in
    pushed_there c.args.set.now c.args.components.now (record { names = c.add.new.self; types = c.push.new.self }) name absent c.in_ok-add.ensures

pub returns-clause-only : goal.returns-clause-only
returns-clause-only c =
    let name = c.args.name.now in
    let names = c.args.components.now.names in
    let absent : list_any (name_eq name) names ≡ false = sym (numbered_any (name_eq name) names) ∙ ap is_some (sym c.number_of.ensures) ∙ sym c.is_some.ensures ∙ c.if-is_some.false in
    pushed_only c.args.set.now c.args.components.now (record { names = c.add.new.self; types = c.push.new.self }) name absent c.in_ok-add.ensures
