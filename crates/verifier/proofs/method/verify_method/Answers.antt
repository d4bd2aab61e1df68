use Rattle.std.proofs.Common.{◌≤◌, sym, subst, arith}
use Rattle.std.specs.Option.{option_map_or}
use Rattle.run_laws.specs.typing_search.Search.{HasNoTyping}
use Rattle.run_laws.proofs.typing_search.Bounds.{bounded}
use Rattle.run_laws.proofs.typing_search.Linking.{ordered_from}
use Rattle.types.specs.method_code.View.{files_of, member_of, body_of}
use Rattle.verifier.specs.Found.{tables_in, work_left}
use Rattle.verifier.specs.Looks.{AreLooks}
use Rattle.verifier.specs.flow.Meanings.{AreMeanings}
use Rattle.verifier.specs.Steps.{method_steps, MayTakeMore}
use Rattle.verifier.specs.Worklist.{turns_steps}
use Rattle.verifier.specs.Verified.{OnFault}
use Rattle.verifier.proofs.Entries.{waiting_within, on_fault}
use Rattle.verifier.proofs.flow.Meant.{nothing_meant}
use Rattle.verifier.proofs.Worklists.{lowest_is, turn_taken, turn_missing}
use Rattle.verifier.proofs.Turned.{off_taken}
use Rattle.verifier.proofs.Turns.{again, less, ends}
use Rattle.verifier.proofs.method.verify_method.Goals as goal

pub returns-in-Err-clause-exact : goal.returns-in-Err-clause-exact
returns-in-Err-clause-exact c = on_fault c.in-Err.fault _ _ c.in-Err.ensures.exact

pub loop-offset-init : goal.loop-offset-init
loop-offset-init c =
    let m = c.args.method.now in
    let files = files_of m in
    let body = body_of m in
    record {
      search = c.in-Ok.ensures.search;
      looks = c.in-Ok.ensures.looks c.in_ok-handlers.handlers.items;
      meanings = subst (AreMeanings m) (sym c.new-meanings.ensures) (nothing_meant m);
      taken = λ costs are turns.
          let within = are (member_of m) body turns in
          let counted = subst (λ o. option_map_or (turns_steps files (member_of m) body turns) o 0 ≤ costs (member_of m) body) c.in-Ok.ensures.begun within in
          omega (arith, counted);
    }

pub turn-requires-clause-offset : goal.turn-requires-clause-offset
turn-requires-clause-offset c =
    let m = c.args.method.now in
    waiting_within (files_of m) (body_of m) c.loop-offset.found c.in-Some.offset c.loop-offset.invariant.search.over c.in-Some.ensures.waits

pub turn-requires-clause-search : goal.turn-requires-clause-search
turn-requires-clause-search c =
    let m = c.args.method.now in
    let files = files_of m in
    again files (ordered_from files c.requires.1.no_refusal) (member_of m) (body_of m) (tables_in files c.loop-offset.found) c.take_lowest.new.self c.in-Some.offset c.in-Some.ensures.waits c.in-Some.ensures.taken_off c.loop-offset.invariant.search

pub loop-offset-smaller : goal.loop-offset-smaller
loop-offset-smaller c =
    let m = c.args.method.now in
    let files = files_of m in
    let limit = bounded files (member_of m) (body_of m) in
    less files (ordered_from files c.requires.1.no_refusal) (member_of m) (body_of m) (tables_in files c.loop-offset.found) c.take_lowest.new.self c.in-Some.offset c.in-Some.ensures.waits c.in-Some.ensures.taken_off limit.0 (tables_in files c.turn.new.found) (c.in-Ok-turn.ensures.turned.lighter limit.0 limit.1)

pub loop-offset-preserved : goal.loop-offset-preserved
loop-offset-preserved c =
    let m = c.args.method.now in
    let files = files_of m in
    let body = body_of m in
    record {
      search = c.in-Ok-turn.ensures.turned.search;
      looks = subst (λ hs. AreLooks m hs c.turn.new.found) c.deref-in-Some-2.ensures.value c.in-Ok-turn.ensures.looks;
      meanings = c.in-Ok-turn.ensures.meanings;
      taken = λ costs are.
          turn_taken files (member_of m) body (tables_in files c.loop-offset.found) (tables_in files c.turn.new.found) c.in-Some.offset c.in-Ok-turn.taken
          (lowest_is c.loop-offset.found.waiting c.in-Some.offset c.in-Some.ensures.waits c.in-Some.ensures.lowest)
          (off_taken files (member_of m) body c.loop-offset.found c.take_lowest.new.self c.in-Some.offset c.in-Ok-turn.taken (tables_in files c.turn.new.found) c.in-Some.ensures.taken_off c.in-Ok-turn.ensures.done)
          c.args.steps.now.left c.loop-offset.steps.left (costs (member_of m) body) (c.loop-offset.invariant.taken costs are) c.take.new.self.left c.in_default-take.ensures.taken;
    }

pub returns-in-Err-turn-clause-exact : goal.returns-in-Err-turn-clause-exact
returns-in-Err-turn-clause-exact c = on_fault c.in-Err-turn.fault _ _ c.in-Err-turn.ensures.exact

pub returns-in-Err-take-clause-exact : goal.returns-in-Err-take-clause-exact
returns-in-Err-take-clause-exact c =
    let m = c.args.method.now in
    let files = files_of m in
    let body = body_of m in
    let few = c.in-Err-take.ensures.fewer in
    subst (λ fault. OnFault fault (HasNoTyping files (member_of m) body) (MayTakeMore files (method_steps (member_of m) body) c.args.steps.now.left)) (sym few.0)
    (λ costs are.
    turn_missing files (member_of m) body (tables_in files c.loop-offset.found) (tables_in files c.turn.new.found) c.in-Some.offset c.in-Ok-turn.taken
    (lowest_is c.loop-offset.found.waiting c.in-Some.offset c.in-Some.ensures.waits c.in-Some.ensures.lowest)
    (off_taken files (member_of m) body c.loop-offset.found c.take_lowest.new.self c.in-Some.offset c.in-Ok-turn.taken (tables_in files c.turn.new.found) c.in-Some.ensures.taken_off c.in-Ok-turn.ensures.done)
    c.args.steps.now.left c.loop-offset.steps.left (costs (member_of m) body) (c.loop-offset.invariant.taken costs are) few.1)

pub returns-clause-typed : goal.returns-clause-typed
returns-clause-typed c =
    let m = c.args.method.now in
    let files = files_of m in
    ends files (ordered_from files c.requires.1.no_refusal) (member_of m) (body_of m) (tables_in files c.loop-offset.found) c.loop-offset.invariant.search c.in_default.ensures.none

pub returns-clause-taken : goal.returns-clause-taken
returns-clause-taken c costs are = let taken = c.loop-offset.invariant.taken costs are 0 in omega (arith, taken)
