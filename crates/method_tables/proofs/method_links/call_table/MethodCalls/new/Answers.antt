use Rattle.std.proofs.Common.{rules, arith, ◌≡◌, ◌+◌, ◌++◌, ◌∷◌, [], List, Some, length, ap, sym, subst}
use Rattle.std.specs.Prelude.{slice_get}
use Rattle.std.specs.Option.{option_map}
use Rattle.std.proofs.lemmas.List.{length-append}
use Rattle.method_tables.specs.method_links.Methods.{methods_of, member_at}
use Rattle.method_tables.specs.method_links.Calls.{IsTold}
use Rattle.method_tables.specs.declared.method_links.call.MethodCall.{MethodCall}
use Rattle.method_tables.proofs.method_links.Telling.{Told, one_told, all_told}
use Rattle.method_tables.proofs.method_links.call_table.MethodCalls.new.Goals as goal

pub loop-number-preserved : goal.loop-number-preserved
loop-number-preserved c =
    let files = c.args.set.now in
    let calls = c.loop-number.calls.items in
    let n = c.loop-number.number in
    let call = c.in-Some-2.call in
    let pushed : c.push.new.self.items ≡ calls ++ call ∷ [] = c.in_ok-push.ensures.items in
    let at : Some (member_at files c.in-Some.place) ≡ option_map (λ m. Some m) (slice_get (methods_of files) n) = c.in-Some.ensures.method files c.requires.numbers in
    let told : IsTold files (member_at files c.in-Some.place) (Some call) = search rules in
    record {
      count = omega (arith, ap length pushed, length-append calls (call ∷ []), c.loop-number.invariant.count);
      said = subst (λ (l : List MethodCall). Told files l (n + 1)) (sym pushed) (one_told files calls n call c.in-Some.place c.loop-number.invariant.count c.loop-number.invariant.said at told);
    }

pub returns : goal.returns
returns c =
    let files = c.args.set.now in
    let count : c.count-number-end.result ≡ length (methods_of files) = c.count-number-end.ensures.methods files c.requires.numbers in
    all_told files c.loop-number.calls.items c.loop-number.number c.loop-number.invariant.count c.loop-number.invariant.said (omega (arith, c.loop-number-test.false, count))
