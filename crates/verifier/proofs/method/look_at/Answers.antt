use Rattle.std.proofs.Common.{◌≡◌, ◌∙◌, length, true, refl, ap, sym, subst, arith}
use Rattle.std.specs.Prelude.{map, option_map, IfSome}
use Rattle.std.specs.Global.{Vec}
use Rattle.run_laws.specs.typing_search.Tables.{entry_of}
use Rattle.run_laws.proofs.typing_search.Linking.{ordered_from}
use Rattle.types.specs.method_code.View.{files_of, member_of, body_of}
use Rattle.verifier.specs.flow.Leads.{lead_in, targets_in, has_handlers, LeadOn}
use Rattle.verifier.specs.Packed.{parts_of, parts_in}
use Rattle.verifier.specs.Found.{tables_in, leads_in}
use Rattle.verifier.specs.declared.flow.lead.Lead.{Lead}
use Rattle.verifier.specs.declared.found.Origin.{Origin}
use Rattle.verifier.proofs.Entries.{flows_from, flows_not, on_unverified}
use Rattle.verifier.proofs.Turns.{breaks, clashes}
use Rattle.verifier.proofs.Turned.{leads_to, look_over}
use Rattle.verifier.proofs.Nears.{typed_in, nears_known}
use Rattle.verifier.proofs.method.look_at.Goals as goal

pub flow_at-requires-clause-start : goal.flow_at-requires-clause-start
flow_at-requires-clause-start c =
    let files = files_of c.args.method.now in
    c.requires.search.searches.starts c.args.offset (parts_in files (parts_of c.args.frame)) (ap entry_of (typed_in files c.args.found.now c.args.offset (parts_of c.args.frame) c.requires.typed))

pub returns-in-Ok-None-clause-exact : goal.returns-in-Ok-None-clause-exact
returns-in-Ok-None-clause-exact c =
    let m = c.args.method.now in
    let files = files_of m in
    let typed = ap entry_of (typed_in files c.args.found.now c.args.offset (parts_of c.args.frame) c.requires.typed) in
    breaks files (ordered_from files c.requires.linked.1.no_refusal) (member_of m) (body_of m) (tables_in files c.args.found.now) c.args.offset c.requires.search (parts_in files (parts_of c.args.frame)) typed (flows_not files (member_of m) (body_of m) c.args.offset (parts_of c.args.frame) c.args.frame c.flow_at.new.frame _ refl c.in-Ok-None.field-0-is c.in-Ok-None.ensures.flow)

pub returns-in-Ok-clause-led : goal.returns-in-Ok-clause-led
returns-in-Ok-clause-led c =
    let m = c.args.method.now in
    let files = files_of m in
    let typed = ap entry_of (typed_in files c.args.found.now c.args.offset (parts_of c.args.frame) c.requires.typed) in
    let hs = c.args.handlers.now in
    let origin : Origin = record { offset = c.args.offset; before = c.in_ok-before-in-Ok-Some.before; after = c.in_ok-after-in-Ok-Some.after; near = c.in_ok-near-in-Ok-Some.near } in
    let on : LeadOn c.args.offset hs c.in-Ok-Some.leads.items = subst (λ o. IfSome o (λ (v : Vec Lead). LeadOn c.args.offset hs v.items)) c.in-Ok-Some.field-0-is c.in-Ok-Some.ensures.handlers in
    let flows = sym (ap (option_map (λ (v : Vec Lead). map (lead_in files c.args.frame c.flow_at.new.frame) v.items)) c.in-Ok-Some.field-0-is) ∙ c.in-Ok-Some.ensures.flow in
    let stands = subst (λ l. has_handlers l ≡ true → c.in_ok-before-in-Ok-Some.before ≡ parts_of c.args.frame) (c.deref-in-Ok-Some.ensures.value ∙ sym c.deref-in-Ok-Some-4.ensures.value) (c.in_ok-before-in-Ok-Some.ensures (parts_of c.args.frame) c.requires.typed) in
    let leads = flows_from files (member_of m) (body_of m) c.args.offset c.args.frame c.flow_at.new.frame origin c.in-Ok-Some.leads.items c.deref-in-Ok-Some-4.result.now stands c.in_ok-after-in-Ok-Some.ensures flows c.deref-in-Ok-Some-4.ensures.value in
    let to = leads_to files origin c.args.offset hs c.in-Ok-Some.leads.items c.deref-in-Ok-Some-4.result.now (targets_in c.deref.result.now) on c.deref-in-Ok-Some-4.ensures.value (ap targets_in c.deref.ensures.value) in
    let long : c.len.result ≡ length c.in-Ok-Some.leads.items = omega arith in
    let count = long ∙ ap length (sym c.deref-in-Ok-Some-4.ensures.value) in
    record {
      targets = targets_in c.deref.result.now;
      led = record {
        t = parts_in files (parts_of c.args.frame);
        leads = leads_in files origin c.deref-in-Ok-Some-4.result.now;
        typed = typed;
        flows = leads;
        to = to;
        merged = c.in-Ok.ensures.merged;
        looks = c.in-Ok.ensures.looks;
      };
      are = c.in_ok-targets-in-Ok-Some.ensures;
      within = look_over m hs origin c.args.offset c.deref-in-Ok-Some-4.result.now (targets_in c.deref.result.now) c.len.result c.bytes_read-read.result c.steps_of_look-steps.result count to c.steps_of_look-steps.ensures c.bytes_read-read.ensures;
    }

pub returns-clause-exact : goal.returns-clause-exact
returns-clause-exact c =
    let m = c.args.method.now in
    let files = files_of m in
    let typed = ap entry_of (typed_in files c.args.found.now c.args.offset (parts_of c.args.frame) c.requires.typed) in
    let origin : Origin = record { offset = c.args.offset; before = c.in_ok-before-in-Ok-Some.before; after = c.in_ok-after-in-Ok-Some.after; near = c.in_ok-near-in-Ok-Some.near } in
    let flows = sym (ap (option_map (λ (v : Vec Lead). map (lead_in files c.args.frame c.flow_at.new.frame) v.items)) c.in-Ok-Some.field-0-is) ∙ c.in-Ok-Some.ensures.flow in
    let stands = subst (λ l. has_handlers l ≡ true → c.in_ok-before-in-Ok-Some.before ≡ parts_of c.args.frame) (c.deref-in-Ok-Some.ensures.value ∙ sym c.deref-in-Ok-Some-4.ensures.value) (c.in_ok-before-in-Ok-Some.ensures (parts_of c.args.frame) c.requires.typed) in
    let leads = flows_from files (member_of m) (body_of m) c.args.offset c.args.frame c.flow_at.new.frame origin c.in-Ok-Some.leads.items c.deref-in-Ok-Some-4.result.now stands c.in_ok-after-in-Ok-Some.ensures flows c.deref-in-Ok-Some-4.ensures.value in
    on_unverified c.in-Err-merge_all.fault _ _
    (λ clash. clashes files (ordered_from files c.requires.linked.1.no_refusal) (member_of m) (body_of m) (tables_in files c.args.found.now) c.args.offset c.requires.search (parts_in files (parts_of c.args.frame)) (leads_in files origin c.deref-in-Ok-Some-4.result.now) typed leads clash) c.in-Err-merge_all.ensures.clash

pub merge_all-requires-clause-known : goal.merge_all-requires-clause-known
merge_all-requires-clause-known c =
    let m = c.args.method.now in
    let hs = c.args.handlers.now in
    let on : LeadOn c.args.offset hs c.in-Ok-Some.leads.items = subst (λ o. IfSome o (λ (v : Vec Lead). LeadOn c.args.offset hs v.items)) c.in-Ok-Some.field-0-is c.in-Ok-Some.ensures.handlers in
    nears_known m c.args.found.now c.args.offset c.requires.search hs c.requires.handlers c.deref-in-Ok-Some-4.result.now (subst (LeadOn c.args.offset hs) (sym c.deref-in-Ok-Some-4.ensures.value) on) c.in_ok-before-in-Ok-Some.before c.in_ok-near-in-Ok-Some.near c.in_ok-near-in-Ok-Some.ensures.near c.in_ok-near-in-Ok-Some.ensures.other
