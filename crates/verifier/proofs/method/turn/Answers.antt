use Rattle.std.proofs.Common.{◌≡◌, ℕ, ◌<◌, ◌∙◌, length, refl, ap, sym, subst}
use Rattle.std.specs.Global.{Vec}
use Rattle.std.specs.Prelude.{Some, slice_get, IfSome}
use Rattle.verifier.specs.Agreeing.{AgreeAt}
use Rattle.verifier.specs.Looks.{LeavesAt, SettlesAt}
use Rattle.run_laws.specs.typing_search.Tables.{entry_of}
use Rattle.run_laws.proofs.typing_search.Linking.{ordered_from}
use Rattle.types.specs.method_code.View.{files_of}
use Rattle.verifier.specs.Packed.{parts_in}
use Rattle.verifier.proofs.Entries.{read_at}
use Rattle.verifier.proofs.Puts.{there_at}
use Rattle.verifier.proofs.Turned.{led_to_told, search_taken, over_taken, passes_taken, nothing_done, turn_done, looks_taken, may_pass, turned, looked}
use Rattle.verifier.proofs.method.turn.Goals as goal

pub returns-in_default-clause-turned : goal.returns-in_default-clause-turned
returns-in_default-clause-turned c =
    let m = c.args.method.now in
    let taken = c.begin_turn.new.self in
    let within = subst (λ types. c.args.offset < length types) (sym c.begin_turn.ensures.types) c.requires.offset in
    let at = read_at (files_of m) taken.types.items c.args.offset _ _ within c.index.ensures c.in_default.is in
    passes_taken m (ordered_from (files_of m) c.requires.linked.1.no_refusal) c.args.handlers.now c.args.found.now taken c.args.offset c.begin_turn.ensures.types c.begin_turn.ensures.waiting c.requires.search (ap entry_of at)

pub returns-in_default-clause-looks : goal.returns-in_default-clause-looks
returns-in_default-clause-looks c =
    let m = c.args.method.now in
    looks_taken m (ordered_from (files_of m) c.requires.linked.1.no_refusal) c.args.handlers.now c.args.found.now c.begin_turn.new.self c.args.offset c.begin_turn.ensures.types c.begin_turn.ensures.waiting c.requires.search c.requires.looks c.begin_turn.ensures.looks

pub leaves_at-requires : goal.leaves_at-requires
leaves_at-requires c =
    let m = c.args.method.now in
    let files = files_of m in
    let taken = c.begin_turn.new.self in
    let within = subst (λ types. c.args.offset < length types) (sym c.begin_turn.ensures.types) c.requires.offset in
    let at = read_at files taken.types.items c.args.offset _ _ within c.index.ensures c.in-Some.is in
    let search = search_taken m (ordered_from files c.requires.linked.1.no_refusal) c.args.handlers.now c.args.found.now taken c.args.offset c.begin_turn.ensures.types c.begin_turn.ensures.waiting c.requires.search in
    record { start = search.searches.starts c.args.offset (parts_in files c.in-Some.packed) (ap entry_of at) }

pub pass_on-requires-clause-over : goal.pass_on-requires-clause-over
pass_on-requires-clause-over c =
    let m = c.args.method.now in
    over_taken m (ordered_from (files_of m) c.requires.linked.1.no_refusal) c.args.handlers.now c.args.found.now c.begin_turn.new.self c.args.offset c.begin_turn.ensures.types c.begin_turn.ensures.waiting c.requires.search

pub pass_on-requires-clause-passes : goal.pass_on-requires-clause-passes
pass_on-requires-clause-passes c =
    let m = c.args.method.now in
    let files = files_of m in
    let taken = c.begin_turn.new.self in
    let within = subst (λ types. c.args.offset < length types) (sym c.begin_turn.ensures.types) c.requires.offset in
    let at = read_at files taken.types.items c.args.offset _ _ within c.index.ensures c.in-Some.is in
    may_pass m (ordered_from files c.requires.linked.1.no_refusal) c.args.handlers.now c.args.found.now taken c.args.offset c.begin_turn.ensures.types c.begin_turn.ensures.waiting c.requires.search c.requires.looks c.begin_turn.ensures.looks
    c.in-Some-taken.look c.in-Some.packed c.in_ok-frame.frame (subst (λ o. IfSome o (λ look. slice_get c.args.found.now.looks.items c.args.offset ≡ Some (Some look))) c.in-Some-taken.is c.in_ok-taken.ensures.look) (ap entry_of at)
    (subst (LeavesAt m c.args.offset) c.deref.ensures.value (c.leaves_at.ensures c.if-leaves_at.true))
    (subst (λ locals. AgreeAt locals c.in_ok-frame.frame.locals c.in-Some.packed.locals) c.deref-then-leaves_at.ensures.value c.in_ok-frame.ensures)

pub look_at-requires-clause-offset : goal.look_at-requires-clause-offset
look_at-requires-clause-offset c = subst (λ types. c.args.offset < length types) (sym c.begin_turn.ensures.types) c.requires.offset

pub look_at-requires-clause-typed : goal.look_at-requires-clause-typed
look_at-requires-clause-typed c =
    let within = subst (λ types. c.args.offset < length types) (sym c.begin_turn.ensures.types) c.requires.offset in
    let at = there_at c.begin_turn.new.self.types.items c.args.offset _ _ within c.index.ensures c.in-Some.is in
    at ∙ ap (λ p. Some (Some p)) (sym c.in_ok-before.ensures)

pub look_at-requires-clause-search : goal.look_at-requires-clause-search
look_at-requires-clause-search c =
    let m = c.args.method.now in
    search_taken m (ordered_from (files_of m) c.requires.linked.1.no_refusal) c.args.handlers.now c.args.found.now c.begin_turn.new.self c.args.offset c.begin_turn.ensures.types c.begin_turn.ensures.waiting c.requires.search

pub returns-then-leaves_at-clause-turned : goal.returns-then-leaves_at-clause-turned
returns-then-leaves_at-clause-turned c =
    let m = c.args.method.now in
    turned m (ordered_from (files_of m) c.requires.linked.1.no_refusal) c.args.handlers.now c.args.found.now c.begin_turn.new.self c.args.offset c.begin_turn.ensures.types c.begin_turn.ensures.waiting c.requires.search c.requires.looks c.begin_turn.ensures.looks
    c.pass_on.new.found c.settle.new.self c.in-Some-taken.look.targets.items c.settle.ensures.types c.settle.ensures.waiting c.in_ok-steps.ensures.led

pub returns-then-leaves_at-clause-looks : goal.returns-then-leaves_at-clause-looks
returns-then-leaves_at-clause-looks c =
    let m = c.args.method.now in
    looked m (ordered_from (files_of m) c.requires.linked.1.no_refusal) c.args.handlers.now c.args.found.now c.begin_turn.new.self c.args.offset c.begin_turn.ensures.types c.begin_turn.ensures.waiting c.requires.search c.requires.looks c.begin_turn.ensures.looks
    c.pass_on.new.found c.settle.new.self c.in-Some-taken.look.targets.items c.settle.ensures.types c.settle.ensures.waiting c.in_ok-steps.ensures.led c.settle.ensures.looks

pub returns-in_default-clause-done : goal.returns-in_default-clause-done
returns-in_default-clause-done c =
    let m = c.args.method.now in
    let taken = c.begin_turn.new.self in
    let within = subst (λ types. c.args.offset < length types) (sym c.begin_turn.ensures.types) c.requires.offset in
    let at = read_at (files_of m) taken.types.items c.args.offset _ _ within c.index.ensures c.in_default.is in
    nothing_done m (ordered_from (files_of m) c.requires.linked.1.no_refusal) c.args.handlers.now c.args.found.now taken c.args.offset c.begin_turn.ensures.types c.begin_turn.ensures.waiting c.requires.search (ap entry_of at)

pub returns-then-leaves_at-clause-done : goal.returns-then-leaves_at-clause-done
returns-then-leaves_at-clause-done c =
    let m = c.args.method.now in
    let hs = c.args.handlers.now in
    turn_done m (ordered_from (files_of m) c.requires.linked.1.no_refusal) hs c.args.found.now c.begin_turn.new.self c.args.offset c.begin_turn.ensures.types c.begin_turn.ensures.waiting c.requires.search
    c.pass_on.new.found c.settle.new.self c.in-Some-taken.look.targets.items c.settle.ensures.types c.settle.ensures.waiting c.in_ok-steps.ensures.led c.in_ok-steps.steps c.steps_of_turn.result c.in_ok-steps.ensures.steps c.steps_of_turn.ensures

pub returns-in-Some-targets-clause-turned : goal.returns-in-Some-targets-clause-turned
returns-in-Some-targets-clause-turned c =
    let m = c.args.method.now in
    let hs = c.args.handlers.now in
    let told = led_to_told m hs c.begin_turn.new.self c.args.offset _ _ c.look_at.new.found c.in-Some-targets.targets c.in-Some-targets.is c.in-Ok.ensures.led in
    turned m (ordered_from (files_of m) c.requires.linked.1.no_refusal) hs c.args.found.now c.begin_turn.new.self c.args.offset c.begin_turn.ensures.types c.begin_turn.ensures.waiting c.requires.search c.requires.looks c.begin_turn.ensures.looks
    c.look_at.new.found c.settle-in-Some-targets.new.self c.in-Some-targets.targets.items c.settle-in-Some-targets.ensures.types c.settle-in-Some-targets.ensures.waiting told.0

pub returns-in-Some-targets-clause-looks : goal.returns-in-Some-targets-clause-looks
returns-in-Some-targets-clause-looks c =
    let m = c.args.method.now in
    let hs = c.args.handlers.now in
    let told = led_to_told m hs c.begin_turn.new.self c.args.offset _ _ c.look_at.new.found c.in-Some-targets.targets c.in-Some-targets.is c.in-Ok.ensures.led in
    looked m (ordered_from (files_of m) c.requires.linked.1.no_refusal) hs c.args.found.now c.begin_turn.new.self c.args.offset c.begin_turn.ensures.types c.begin_turn.ensures.waiting c.requires.search c.requires.looks c.begin_turn.ensures.looks
    c.look_at.new.found c.settle-in-Some-targets.new.self c.in-Some-targets.targets.items c.settle-in-Some-targets.ensures.types c.settle-in-Some-targets.ensures.waiting told.0
    (subst (λ (v : Vec ℕ). SettlesAt c.args.offset v.items c.look_at.new.found c.settle-in-Some-targets.new.self) c.in-Some-targets.targets-is c.settle-in-Some-targets.ensures.looks)

pub returns-in-Some-targets-clause-done : goal.returns-in-Some-targets-clause-done
returns-in-Some-targets-clause-done c =
    let m = c.args.method.now in
    let hs = c.args.handlers.now in
    let told = led_to_told m hs c.begin_turn.new.self c.args.offset _ _ c.look_at.new.found c.in-Some-targets.targets c.in-Some-targets.is c.in-Ok.ensures.led in
    turn_done m (ordered_from (files_of m) c.requires.linked.1.no_refusal) hs c.args.found.now c.begin_turn.new.self c.args.offset c.begin_turn.ensures.types c.begin_turn.ensures.waiting c.requires.search
    c.look_at.new.found c.settle-in-Some-targets.new.self c.in-Some-targets.targets.items c.settle-in-Some-targets.ensures.types c.settle-in-Some-targets.ensures.waiting told.0 c.in-Ok.looked.steps c.steps_of_turn-steps.result told.1 c.steps_of_turn-steps.ensures

pub returns-in-None-clause-turned : goal.returns-in-None-clause-turned
returns-in-None-clause-turned c =
    let m = c.args.method.now in
    let hs = c.args.handlers.now in
    let found = c.look_at.new.found in
    let of = c.in-Ok.ensures.led in
    turned m (ordered_from (files_of m) c.requires.linked.1.no_refusal) hs c.args.found.now c.begin_turn.new.self c.args.offset c.begin_turn.ensures.types c.begin_turn.ensures.waiting c.requires.search c.requires.looks c.begin_turn.ensures.looks
    found found of.targets refl refl of.led

pub returns-in-None-clause-looks : goal.returns-in-None-clause-looks
returns-in-None-clause-looks c =
    let m = c.args.method.now in
    let hs = c.args.handlers.now in
    c.in-Ok.ensures.led.led.looks hs (looks_taken m (ordered_from (files_of m) c.requires.linked.1.no_refusal) hs c.args.found.now c.begin_turn.new.self c.args.offset c.begin_turn.ensures.types c.begin_turn.ensures.waiting c.requires.search c.requires.looks c.begin_turn.ensures.looks)

pub returns-in-None-clause-done : goal.returns-in-None-clause-done
returns-in-None-clause-done c =
    let m = c.args.method.now in
    let hs = c.args.handlers.now in
    let found = c.look_at.new.found in
    let of = c.in-Ok.ensures.led in
    turn_done m (ordered_from (files_of m) c.requires.linked.1.no_refusal) hs c.args.found.now c.begin_turn.new.self c.args.offset c.begin_turn.ensures.types c.begin_turn.ensures.waiting c.requires.search
    found found of.targets refl refl of.led c.in-Ok.looked.steps c.steps_of_turn-steps.result of.within c.steps_of_turn-steps.ensures
