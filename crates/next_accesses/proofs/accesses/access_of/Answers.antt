use Rattle.std.proofs.Common.{false, ap, sym, ◌∙◌}
use Rattle.thread_stacks.specs.Stacks.{shown_frame}
use Rattle.next_accesses.specs.accesses.Accesses.{read_of, write_of}
use Rattle.next_accesses.proofs.accesses.Accessing.{field_told, no_field, load_told, store_told, none_told}
use Rattle.next_accesses.proofs.accesses.access_of.Goals as goal

pub returns-in-Some : goal.returns-in-Some
returns-in-Some c =
    field_told (shown_frame c.args.frame.now).operands c.args.instruction c.in-Field.access _ c.in-Field.is c.args.field c.in-Some.field c.in-Some.is c.field_access.result c.field_access.ensures

pub returns-in-None : goal.returns-in-None
returns-in-None c = no_field (shown_frame c.args.frame.now).operands c.args.instruction c.in-Field.access _ c.in-Field.is c.args.field c.in-None.is

pub returns-in-LoadElement : goal.returns-in-LoadElement
returns-in-LoadElement c =
    load_told (shown_frame c.args.frame.now).operands c.args.instruction _ c.in-LoadElement.is c.args.field c.read.result
    (c.read.ensures ∙ ap (read_of false) c.element.ensures)

pub returns-in-StoreElement : goal.returns-in-StoreElement
returns-in-StoreElement c =
    store_told (shown_frame c.args.frame.now).operands c.args.instruction _ c.in-StoreElement.is c.args.field c.write.result
    (c.write.ensures ∙ ap (write_of false) c.element-in-StoreElement.ensures)

pub returns-in_default : goal.returns-in_default
returns-in_default c =
    none_told (shown_frame c.args.frame.now).operands c.args.instruction c.args.field
    (λ how index e. c.in_default.not-Field how index e) (λ kind e. c.in_default.not-LoadElement kind e) (λ kind e. c.in_default.not-StoreElement kind e)
