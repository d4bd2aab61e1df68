use Rattle.std.proofs.Common.{◌≡◌, ◌∙◌, ◌||◌, Some, Option, false, sym, subst, ap}
use Rattle.std.specs.List.{list_any}
use Rattle.std.specs.Option.{option_map_or}
use Rattle.model.specs.declared.value.Value.{Value}
use Rattle.model.specs.Classes.{Program}
use Rattle.model.specs.Lookup.{field_of}
use Rattle.model.specs.Resolution.{is_missing, member_classes}
use Rattle.model.specs.Operands.{values}
use Rattle.model.specs.Sites.{MeaningOf}
use Rattle.model.specs.Meanings.{system_stream_meaning}
use Rattle.constant_pool.specs.View.{reference_of}
use Rattle.hierarchy.specs.Places.{member_in}
use Rattle.instruction_types.specs.Answers.{Answers}
use Rattle.instruction_types.specs.Fields.{accessed}
use Rattle.instruction_types.specs.Places.{is_field_of_kind}
use Rattle.instruction_types.proofs.FieldMeanings.{stream_first, found_so}
use Rattle.instruction_types.proofs.Telling.{answers_told, narrowed_number}
use Rattle.instruction_types.proofs.fields.on_field.Goals as goal

pub returns-then-gets_system_stream : goal.returns-then-gets_system_stream
returns-then-gets_system_stream c = λ site others.
    let files = c.args.hierarchy.now in
    let is = sym c.gets_system_stream.ensures ∙ c.if-gets_system_stream.true in
    let first = stream_first files site (reference_of c.args.field) c.args.access is in
    answers_told files site _ _ (system_stream_meaning values site.next first.0) c.system_stream.result first.1
    (narrowed_number files site first.0 c.system_stream.result (λ site stream. system_stream_meaning values site.next stream) c.system_stream.ensures.means) c.system_stream.ensures.memory

pub returns : goal.returns
returns c = λ site others.
    let files = c.args.hierarchy.now in
    let m = reference_of c.args.field in
    let found = member_in files m c.in-Some.found in
    let other = sym c.gets_system_stream.ensures ∙ c.if-gets_system_stream.false in
    let kind = sym (subst (λ (p : Program). c.is_field_of_kind.result ≡ option_map_or (is_field_of_kind c.wants_static.result) (field_of p (member_in p m c.in-Some.found)) false) c.set-set.ensures c.is_field_of_kind.ensures) ∙ c.if-not-is_field_of_kind.false in
    let is = ap (λ b. option_map_or (is_field_of_kind b) (field_of files found) false) (sym c.wants_static.ensures) ∙ kind in
    subst (λ (o : Option (MeaningOf Value)). Answers files site (list_any (is_missing files) (member_classes (Some m)) || others) o c.on_found.result)
    (sym (found_so files site m c.args.access found other c.in-Some.ensures.found is))
    (subst (λ (p : Program). Answers p site (list_any (is_missing p) (member_classes (Some m)) || others) (Some (accessed p site c.args.access m (member_in p m c.in-Some.found))) c.on_found.result) c.set-set.ensures (c.on_found.ensures site others))
