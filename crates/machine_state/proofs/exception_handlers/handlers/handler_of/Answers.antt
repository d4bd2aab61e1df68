use Rattle.std.proofs.Common.{◌≡◌, suc, ◌+◌, Bool, true, false, Some, if◌then◌else◌, length, drop, sym, ap, ◌∙◌, arith}
use Rattle.std.specs.Prelude.{find, ◌&&◌}
use Rattle.std.proofs.lemmas.Option.{slice_get-get_or}
use Rattle.model.specs.declared.class_file.ExceptionEntry.{ExceptionEntry}
use Rattle.model.specs.Step.{covers, takes}
use Rattle.machine_state.specs.exception_handlers.Handlers.{type_at}
use Rattle.machine_state.proofs.exception_handlers.Finding.{entry_at, none_behind, is_place, no_place}
use Rattle.machine_state.proofs.exception_handlers.handlers.handler_of.Goals as goal

-- src/handlers.rt:45:13
pub returns-then-is_for : goal.returns-then-is_for
returns-then-is_for c = λ files trees linkable linked heap shows pool at entries are.
    let test = λ (entry : ExceptionEntry). covers c.args.offset entry && takes trees pool (type_at heap c.args.exception) entry in
    let e = entry_at trees c.args.program.now pool at test entries c.args.handlers.now are c.loop-handler.handler-index _ (slice_get-get_or c.args.handlers.now c.loop-handler.handler-index _ c.loop-handler-test.true) in
    let is : test e.entry ≡ true = sym (c.is_for.ensures files trees linkable linked heap shows pool at e.entry e.is) ∙ c.if-is_for.true in
    is_place at _ e.entry _
    (c.loop-handler.invariant files trees linkable linked heap shows pool at entries are ∙ e.rest ∙ ap (λ (b : Bool). if b then Some e.entry else find test (drop (suc c.loop-handler.handler-index) entries)) is)
    e.is.to

-- src/handlers.rt:44:5
pub loop-handler-preserved : goal.loop-handler-preserved
loop-handler-preserved c = λ files trees linkable linked heap shows pool at entries are.
    let test = λ (entry : ExceptionEntry). covers c.args.offset entry && takes trees pool (type_at heap c.args.exception) entry in
    let e = entry_at trees c.args.program.now pool at test entries c.args.handlers.now are c.loop-handler.handler-index _ (slice_get-get_or c.args.handlers.now c.loop-handler.handler-index _ c.loop-handler-test.true) in
    let next : suc c.loop-handler.handler-index ≡ c.loop-handler.handler-index + 1 = omega arith in
    let not : test e.entry ≡ false = sym (c.is_for.ensures files trees linkable linked heap shows pool at e.entry e.is) ∙ c.if-is_for.false in
    c.loop-handler.invariant files trees linkable linked heap shows pool at entries are ∙ e.rest ∙ ap (λ (b : Bool). if b then Some e.entry else find test (drop (suc c.loop-handler.handler-index) entries)) not
    ∙ ap (λ k. find test (drop k entries)) next

-- src/handlers.rt:36:1
pub returns : goal.returns
returns c = λ files trees linkable linked heap shows pool at entries are.
    let test = λ (entry : ExceptionEntry). covers c.args.offset entry && takes trees pool (type_at heap c.args.exception) entry in
    let all : c.loop-handler.handler-index ≡ length c.args.handlers.now = omega (arith, c.loop-handler-test.false, c.loop-handler.auto.handler-index-end) in
    no_place at _
    (c.loop-handler.invariant files trees linkable linked heap shows pool at entries are
    ∙ ap (λ k. find test (drop k entries)) all
    ∙ none_behind trees c.args.program.now pool at test entries c.args.handlers.now are)
