use Rattle.std.proofs.Common.{arith, ◌≡◌, ◌∙◌, ◌&&◌, cond, Some, ap, sym}
use Rattle.std.specs.Prelude.{slice_get}
use Rattle.std.specs.Map.{lookup}
use Rattle.method_tables.specs.declared.method_links.declarations.Declaration.{Declaration}
use Rattle.method_tables.specs.method_links.Selected.{key_of, is_declaration, selectable_at}
use Rattle.method_tables.proofs.method_links.Selecting.{step_sound, step_complete, are_declared}
use Rattle.method_tables.proofs.method_links.declarations.declared_of.Goals as goal

pub loop-number-preserved : goal.loop-number-preserved
loop-number-preserved c =
    let files = c.args.set.now in
    let table = c.args.numbers.now in
    let names = c.args.names.now in
    let descriptors = c.args.descriptors.now in
    let place = c.in-Some.place in
    let n = c.loop-number.number in
    let old = c.loop-number.declared.entries in
    let new = c.add_if.new.declared.entries in
    let there : slice_get table.places n ≡ Some place = sym c.in-Some.ensures.place in
    let updates : (q : Declaration) → lookup (is_declaration q) new ≡ cond (selectable_at files place && is_declaration (key_of names descriptors place.class n) q) (Some n) (lookup (is_declaration q) old) =
    λ q. c.in_ok-add_if.ensures q
    ∙ ap (λ b. cond (b && is_declaration c.key_of-key.result q) (Some n) (lookup (is_declaration q) old)) c.is_selectable_at.ensures
    ∙ ap (λ (k : Declaration). cond (selectable_at files place && is_declaration k q) (Some n) (lookup (is_declaration q) old)) c.key_of-key.ensures in
    record {
      sound = step_sound files table names descriptors old new n place there updates c.loop-number.invariant.sound;
      complete = step_complete files table names descriptors old new n place there updates c.loop-number.invariant.complete;
    }

pub returns : goal.returns
returns c =
    are_declared c.args.set.now c.args.numbers.now c.args.names.now c.args.descriptors.now c.requires.linked c.requires.numbers c.requires.names c.requires.descriptors c.loop-number.declared.entries c.loop-number.invariant.sound
    (λ number lt place s st. c.loop-number.invariant.complete number (omega (arith, lt, c.loop-number-test.false, c.count-number-end.ensures.places)) place s st)
