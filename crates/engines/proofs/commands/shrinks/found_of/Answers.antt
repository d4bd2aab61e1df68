use Rattle.std.proofs.Common.{arith, map, subst, vec_items}
use Rattle.std.specs.Prelude.{IfOk}
use Rattle.std.proofs.lemmas.List.{length-map}
use Rattle.std.proofs.lemmas.Result.{IfOk-weaker}
use Rattle.std.specs.Arc.{arc_value}
use Rattle.std.specs.Option.{option_map}
use Rattle.model.specs.Schedule.{events_of}
use Rattle.engines.specs.RecordForms.{record_form}
use Rattle.engines.specs.Shrinks.{IsShrunkBy}
use Rattle.engines.proofs.RunLemmas.{few_files}
use Rattle.engines.proofs.commands.shrinks.found_of.Goals as goal

pub found_by-requires : goal.found_by-requires
found_by-requires c = omega (arith, few_files (map vec_items c.args.opened.files.items) (arc_value c.args.opened.verified) c.requires, length-map c.args.opened.files.items vec_items)

pub returns : goal.returns
returns c =
    let opened = c.args.opened in
    let found = c.found_by.result in
    let of_files = subst (λ files. IfOk found (λ x. IsShrunkBy opened.limits (record_form c.args.given c.args.options.now.as_version) (map vec_items files) c.is_some-is_recorded.result c.in_ok-shrunk.shrunk x.text.items (option_map vec_items x.made.file) x.status))
    c.deref.ensures.value c.found_by.ensures in
    let of_record = subst (λ recorded. IfOk found (λ x. IsShrunkBy opened.limits (record_form c.args.given c.args.options.now.as_version) (map vec_items opened.files.items) recorded c.in_ok-shrunk.shrunk x.text.items (option_map vec_items x.made.file) x.status))
    c.is_some-is_recorded.ensures of_files in
    IfOk-weaker found _ _
    (λ found is bytes given. record {
      trees = arc_value opened.verified;
      events = events_of opened.schedule;
      limits = opened.limits;
      gives_up = opened.gives_up;
      opened = given;
      shrunk = c.in_ok-shrunk.shrunk;
      is = c.in_ok-shrunk.ensures;
      written = is;
    })
    of_record
