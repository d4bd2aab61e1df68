use Rattle.std.proofs.Common.{[], ◌∷◌}
use Rattle.heap.specs.declared.kind.ObjectKind.TheVariants as kind
use Rattle.heap.specs.Heap.{fresh}
use Rattle.machine_threads.specs.machine_opening.Opened.{AddsObjects, first_objects, main_thread}
use Rattle.model.specs.BuiltInNumbers.{print_stream_number}
use Rattle.machine_threads.proofs.machine_opening.Adding.{after_ok, adds_both}
use Rattle.machine_threads.proofs.machine_opening.objects.add_first.Goals as goal

pub returns : goal.returns
returns c =
    let print_stream = fresh (kind.Instance print_stream_number) 0 in
    let arguments = fresh (kind.References c.args.string_component) 0 in
    let thread = main_thread c.args.name in
    let two = adds_both (print_stream ∷ []) (arguments ∷ []) c.args.heap.now c.add.new.heap c.add-2.new.heap c.in_ok-add.ensures c.in_ok-add-2.ensures in
    after_ok (AddsObjects (thread ∷ []) c.add-2.new.heap c.add_main_thread.new.heap) (AddsObjects (first_objects c.args.string_component c.args.name) c.args.heap.now c.add_main_thread.new.heap)
    (λ third. adds_both (print_stream ∷ arguments ∷ []) (thread ∷ []) c.args.heap.now c.add-2.new.heap c.add_main_thread.new.heap two third)
    c.add_main_thread.result c.add_main_thread.ensures
