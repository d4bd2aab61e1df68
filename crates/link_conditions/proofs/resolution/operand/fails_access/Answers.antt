use Rattle.std.proofs.Common.{false, ◌&&◌, ◌||◌, ap, sym, ◌∙◌}
use Rattle.std.specs.Option.{option_map_or}
use Rattle.model.specs.Tree.{FieldTree}
use Rattle.model.specs.AccessFlags.{is_static_field}
use Rattle.model.specs.HiddenMembers.{is_hidden}
use Rattle.model.specs.Lookup.{field_of}
use Rattle.model.specs.Resolution.{differs, is_system_stream}
use Rattle.constant_pool.specs.View.{reference_of}
use Rattle.hierarchy.specs.Places.{member_in}
use Rattle.link_conditions.specs.resolution.Operands.{is_put_static}
use Rattle.link_conditions.proofs.resolution.operand.fails_access.Goals as goal

pub returns-then-puts_stream : goal.returns-then-puts_stream
returns-then-puts_stream c =
    let m = member_in c.args.set.now (reference_of c.args.field) c.args.place in
    let of_the_kind =
    ap (λ wants. option_map_or (λ (f : FieldTree). differs wants (is_static_field f)) (field_of c.args.set.now m) false)
    (sym c.wants_static_field.ensures)
    ∙ sym c.is_field_of_other_kind.ensures
    ∙ c.if-is_field_of_other_kind.false in
    let puts = sym c.puts_stream.ensures ∙ c.if-puts_stream.true in
    c.if-puts_stream.true
    ∙ sym (ap (λ b. b || ((is_put_static c.args.access && is_system_stream m) || is_hidden m)) of_the_kind ∙ ap (λ b. b || is_hidden m) puts)
