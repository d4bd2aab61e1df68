use Rattle.std.proofs.Common.{arith, ◌∙◌, List, ℕ, map, sym, ap}
use Rattle.std.specs.Prelude.{slice_get}
use Rattle.library_files.specs.Adding.{library_file}
use Rattle.library_files.proofs.Turns.{no_turn, next_turn, all_turns, none_past}
use Rattle.library_files.proofs.adding.add_in_turn.Goals as goal

pub loop-turn-init : goal.loop-turn-init
loop-turn-init c = λ files are added. no_turn (map library_file c.args.library.now) files c.args.places.now.items added

pub returns-in_default : goal.returns-in_default
returns-in_default c = λ files are added.
    let places = c.loop-turn.places.items in
    let none = ap (λ (l : List ℕ). slice_get l c.loop-turn.turn) (sym c.deref.ensures.value) ∙ sym c.in_default.ensures in
    all_turns (map library_file c.args.library.now) files c.loop-turn.turn c.args.places.now.items places (none_past places c.loop-turn.turn 0 none) (c.loop-turn.invariant files are added)

pub loop-turn-preserved : goal.loop-turn-preserved
loop-turn-preserved c = λ files are added.
    let at = ap (λ (l : List ℕ). slice_get l c.loop-turn.turn) (sym c.deref.ensures.value) ∙ sym c.in-Some.ensures in
    next_turn (map library_file c.args.library.now) files c.loop-turn.turn c.in-Some.place c.args.places.now.items c.loop-turn.places.items c.add_needed_at.new.places.items (c.loop-turn.invariant files are added) at
    (c.in_ok-add_needed_at.ensures files are)

pub returns : goal.returns
returns c = λ files are added.
    all_turns (map library_file c.args.library.now) files c.loop-turn.turn c.args.places.now.items c.loop-turn.places.items
    (omega (arith, c.loop-turn-test.false, c.loop-turn.places.small, c.loop-turn.places.ok.0, c.loop-turn.places.ok.1)) (c.loop-turn.invariant files are added)
