use Rattle.std.proofs.Common.{ℕ, [], ◌∷◌, subst, Vec, Global}
use Rattle.model.specs.Texts.{Text}
use Rattle.machine_threads.specs.machine_opening.Opened.{AddsObjects, string_object}
use Rattle.machine_threads.proofs.machine_opening.Adding.{adds_one}
use Rattle.machine_threads.proofs.machine_opening.objects.add_strings.Goals as goal

pub loop-text-preserved : goal.loop-text-preserved
loop-text-preserved c =
    let texts = c.args.texts.now in
    let i = c.loop-text.text-index in
    let one = subst (λ (units : Text). AddsObjects (string_object units ∷ []) c.loop-text.heap c.add_string.new.heap) c.deref.ensures.value c.in_ok-add_string.ensures in
    adds_one (λ (text : Vec ℕ Global). string_object text.items) texts i c.text-item.result c.args.heap.now c.loop-text.heap c.add_string.new.heap c.loop-text-test.true c.loop-text.invariant
    (subst (λ (text : Vec ℕ Global). AddsObjects (string_object text.items ∷ []) c.loop-text.heap c.add_string.new.heap) c.text-item.is one)
