use Rattle.std.proofs.Common.{◌≡◌, ◌++◌, map, option_map, Some, None, true, refl, sym, ap, ◌∙◌, subst, arith}
use Rattle.model.specs.Operands.{values}
use Rattle.model.specs.Meanings.{meaning_of}
use Rattle.model.specs.InstructionStarts.{is_start}
use Rattle.model.specs.Sites.{site_at}
use Rattle.model.specs.Instruction.{instr_at}
use Rattle.model.specs.Typing.{handlers_from, flow_at}
use Rattle.types.specs.View.{frame_in}
use Rattle.types.specs.declared.method_code.declaration.MethodCode.{MethodCode}
use Rattle.types.specs.method_code.Linked.{IsLinked}
use Rattle.types.specs.method_code.View.{files_of, member_of, body_of}
use Rattle.types.specs.method_code.Site.{site_of}
use Rattle.verifier.specs.flow.Leads.{lead_on, handler_leads}
use Rattle.verifier.specs.flow.Meanings.{AreMeanings}
use Rattle.verifier.specs.flow.Successors.{successors_by}
use Rattle.verifier.proofs.flow.Refused.{not_refused}
use Rattle.verifier.proofs.flow.Flowing.{flow_refused, flow_allowed, leads_in_all, site_said, none_through, some_through}
use Rattle.verifier.proofs.flow.flow.flow_at.Goals as goal
use Rattle.model.proofs.StartLaws.{start_within}

pub overflow_cast-offset : goal.overflow_cast-offset
overflow_cast-offset c =
    let m = c.args.method.now in
    let within = start_within (body_of m).code.code c.args.offset c.requires.start in
    let short = m.declared.is_short in
    omega (arith, within, short)

pub returns-then-not-may_stand-clause-flow : goal.returns-then-not-may_stand-clause-flow
returns-then-not-may_stand-clause-flow c =
    let m = c.args.method.now in
    let s = c.in-Some.site in
    let old = c.args.frame.now in
    let same : s.method ≡ m = c.in-Some.ensures.method in
    let P : MethodCode → Type 0 = λ x. None ≡ flow_at (files_of x) (frame_in (files_of x) old) (Some (site_of s)) in
    let files = files_of s.method in
    subst P same (sym (flow_refused files (site_of s) (frame_in files old) (meaning_of values files (site_of s)) (sym c.may_stand.ensures ∙ c.if-not-may_stand.true)))
    ∙ ap (flow_at (files_of m) (frame_in (files_of m) old)) c.in-Some.ensures.value

pub successors-requires-clause-linked : goal.successors-requires-clause-linked
successors-requires-clause-linked c =
    let m = c.args.method.now in
    let s = c.in-Some.site in
    let back = sym c.in-Some.ensures.method in
    let said = site_said (member_of m) (body_of m) c.args.offset (site_of s) c.in-Some.ensures.value in
    let L : MethodCode → Type 0 = λ x. IsLinked (files_of x) in
    let S : MethodCode → Type 0 = λ x. is_start (body_of x).code.code s.offset ≡ true in
    let I : MethodCode → Type 0 = λ x. instr_at (body_of x).code.code s.offset ≡ Some s.instr in
    not_refused s (subst L back c.requires.linked)
    (subst S back (subst (λ n. is_start (body_of m).code.code n ≡ true) (sym said.0) c.requires.start))
    (subst I back (subst (λ n. instr_at (body_of m).code.code n ≡ Some s.instr) (sym said.0) said.1))

pub returns-in_default-found-clause-flow : goal.returns-in_default-found-clause-flow
returns-in_default-found-clause-flow c =
    let m = c.args.method.now in
    let s = c.in-Some.site in
    let old = c.args.frame.now in
    let same : s.method ≡ m = c.in-Some.ensures.method in
    let P : MethodCode → Type 0 = λ x. None ≡ flow_at (files_of x) (frame_in (files_of x) old) (Some (site_of s)) in
    let files = files_of s.method in
    let t = frame_in files old in
    let allowed = flow_allowed files (site_of s) t (meaning_of values files (site_of s)) (sym c.may_stand.ensures ∙ c.if-not-may_stand.false) in
    let none : successors_by files (site_of s) t (meaning_of values files (site_of s)) ≡ None = none_through _ _ _ c.in_ok-found.ensures.successors c.in_default-found.is in
    subst P same (sym (allowed ∙ ap (option_map (λ l. l ++ handlers_from files (body_of s.method).pool s.offset t (body_of s.method).code.exceptions)) none))
    ∙ ap (flow_at (files_of m) (frame_in (files_of m) old)) c.in-Some.ensures.value

pub returns-clause-flow : goal.returns-clause-flow
returns-clause-flow c =
    let m = c.args.method.now in
    let s = c.in-Some.site in
    let old = c.args.frame.now in
    let new = c.successors.new.frame in
    let tos = c.in-Some-found.targets.items in
    let same : s.method ≡ m = c.in-Some.ensures.method in
    let said = site_said (member_of m) (body_of m) c.args.offset (site_of s) c.in-Some.ensures.value in
    let P : MethodCode → Type 0 =
    λ x. Some (map (λ to. (to, frame_in (files_of x) new)) tos ++ handlers_from (files_of x) (body_of x).pool c.args.offset (frame_in (files_of x) old) (body_of x).code.exceptions) ≡ flow_at (files_of x) (frame_in (files_of x) old) (Some (site_of s)) in
    let files = files_of s.method in
    let t = frame_in files old in
    let body = body_of s.method in
    let rest = map (λ to. (to, frame_in files new)) tos in
    let allowed = flow_allowed files (site_of s) t (meaning_of values files (site_of s)) (sym c.may_stand.ensures ∙ c.if-not-may_stand.false) in
    let some : successors_by files (site_of s) t (meaning_of values files (site_of s)) ≡ Some rest = some_through _ _ _ c.in-Some-found.targets c.in_ok-found.ensures.successors c.in-Some-found.is in
    let here = allowed ∙ ap (option_map (λ l. l ++ handlers_from files body.pool s.offset t body.code.exceptions)) some ∙ ap (λ n. Some (rest ++ handlers_from files body.pool n t body.code.exceptions)) said.0 in
    ap (λ l. Some l)
    (leads_in_all (files_of m) (body_of m).pool c.args.offset old new c.args.handlers.now (body_of m).code.exceptions tos _ _ _ c.requires.handlers.entries c.requires.handlers.caught
    (c.in_ok-leads.ensures ∙ ap (map lead_on) c.deref.ensures) c.in_ok-add_handlers.ensures refl)
    ∙ subst P same (sym here)
    ∙ ap (flow_at (files_of m) (frame_in (files_of m) old)) c.in-Some.ensures.value

pub returns-clause-handlers : goal.returns-clause-handlers
returns-clause-handlers c =
    record {
      targets = c.in-Some-found.targets.items;
      are = c.in_ok-add_handlers.ensures ∙ ap (λ l. l ++ handler_leads c.args.offset c.args.handlers.now) (c.in_ok-leads.ensures ∙ ap (map lead_on) c.deref.ensures);
    }

pub successors-requires-clause-there : goal.successors-requires-clause-there
successors-requires-clause-there c =
    let m = c.args.method.now in
    let s = c.in-Some.site in
    let said = site_said (member_of m) (body_of m) c.args.offset (site_of s) c.in-Some.ensures.value in
    subst (λ (x : MethodCode). site_at (member_of x) (body_of x) s.offset ≡ Some (site_of s)) (sym c.in-Some.ensures.method)
    (subst (λ n. site_at (member_of m) (body_of m) n ≡ Some (site_of s)) (sym said.0) (sym c.in-Some.ensures.value))

pub successors-requires-clause-meanings : goal.successors-requires-clause-meanings
successors-requires-clause-meanings c =
    subst (λ (x : MethodCode). AreMeanings x c.args.meanings.now) (sym c.in-Some.ensures.method) c.requires.meanings

pub returns-in_default-found-clause-meanings : goal.returns-in_default-found-clause-meanings
returns-in_default-found-clause-meanings c =
    subst (λ (x : MethodCode). AreMeanings x c.successors.new.meanings) c.in-Some.ensures.method c.in_ok-found.ensures.meanings

pub returns-clause-meanings : goal.returns-clause-meanings
returns-clause-meanings c =
    subst (λ (x : MethodCode). AreMeanings x c.successors.new.meanings) c.in-Some.ensures.method c.in_ok-found.ensures.meanings
