use Rattle.std.proofs.Common.{List, ◌≡◌, ◌<◌, ◌≤◌, ◌+◌, ◌-◌, ℕ, length, take, drop, refl, ap, arith, ◌∙◌}
use Rattle.heap.specs.Heap.{Heap, Object, put_field, word_at, words_at}
use Rattle.machine_instructions.proofs.thread_methods.StoredUnits.{stores_next}
use Rattle.machine_instructions.proofs.thread_methods.chars.put_units.Goals as goal

pub units-preserved : goal.units-preserved
units-preserved c =
    let old = c.args.heap.now in
    let read = c.get_field-unit.ensures ∙ ap (λ (h : Heap). word_at h.objects c.args.string (c.args.begin + c.units.done)) c.units.invariant in
    c.put_field.ensures
    ∙ (ap (λ (h : Heap). record h { objects = put_field h.objects c.args.array (c.args.index + c.units.done) c.get_field-unit.result }) c.units.invariant
    ∙ ap (λ (l : List Object). record old { objects = l })
    (stores_next old.objects c.args.string c.args.begin c.args.array c.args.index c.units.done (c.requires.apart (omega (arith, c.units-test.true)))
    (omega (arith, c.units-test.true, c.requires.text)) c.get_field-unit.result read))
