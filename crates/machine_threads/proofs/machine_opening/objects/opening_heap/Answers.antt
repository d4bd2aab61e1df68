use Rattle.std.proofs.Common.{Vec, Global, ℕ, List, [], ◌∷◌, ◌++◌, length, map, replicate, subst, ◌∙◌}
use Rattle.heap.specs.declared.kind.ObjectKind.TheVariants as kind
use Rattle.heap.specs.Heap.{fresh}
use Rattle.machine_threads.specs.machine_opening.Opened.{AddsObjects, first_objects, string_object}
use Rattle.model.specs.BuiltInNumbers.{class_number, print_stream_number}
use Rattle.machine_threads.proofs.machine_opening.Adding.{adds_both}
use Rattle.machine_threads.proofs.machine_opening.objects.opening_heap.Goals as goal

pub returns : goal.returns
returns c =
    let classes = replicate (length c.args.program.now.classes.items) (fresh (kind.Instance class_number) 0) in
    let strings = map (λ (text : Vec ℕ Global). string_object text.items) c.args.program.now.texts.items in
    let second = subst (λ n. AddsObjects (replicate n (fresh (kind.Instance class_number) 0)) c.add_first.new.heap c.add_instances.new.heap) (c.len.ensures ∙ c.args.program.now.classes.ok.0) c.in_ok-add_instances.ensures in
    let third = subst (λ (texts : List (Vec ℕ Global)). AddsObjects (map (λ (text : Vec ℕ Global). string_object text.items) texts) c.add_instances.new.heap c.add_strings.new.heap) c.deref.ensures.value c.in_ok-add_strings.ensures in
    let stream = fresh (kind.Instance print_stream_number) 0 in
    let behind = adds_both strings (stream ∷ []) c.add_instances.new.heap c.add_strings.new.heap c.add_instances-2.new.heap third c.in_ok-add_instances-2.ensures in
    let rest = adds_both classes (strings ++ stream ∷ []) c.add_first.new.heap c.add_instances.new.heap c.add_instances-2.new.heap second behind in
    let all = adds_both (first_objects c.args.program.now.string_component c.args.program.now.main_text)
    (classes ++ (strings ++ stream ∷ [])) c.new-heap.result c.add_first.new.heap c.add_instances-2.new.heap c.in_ok-add_first.ensures rest in
    all.are c.args.limits [] c.new-heap.ensures
