use Rattle.std.proofs.Common.{◌+◌, [], ◌∷◌, drop, get_or, None, sym, subst}
use Rattle.std.specs.Prelude.{OnOk, IfErr}
use Rattle.run_laws.specs.typing_search.Search.{Clashes}
use Rattle.run_laws.specs.typing_search.Tables.{typing_of}
use Rattle.run_laws.proofs.typing_search.Linking.{ordered_from}
use Rattle.types.specs.method_code.View.{files_of, member_of, body_of}
use Rattle.verifier.specs.declared.flow.lead.Lead.{Lead}
use Rattle.verifier.specs.Found.{tables_in, leads_in, HasMerged, MergesInto, IsClash}
use Rattle.verifier.proofs.Entries.{leads_more, leads_split, all_leads, on_unverified}
use Rattle.verifier.proofs.Merges.{nothing, follows, clashes}
use Rattle.verifier.proofs.Nears.{leads_kept, same_origin, origin_then, known_on}
use Rattle.verifier.proofs.found.Found.merge_all.Goals as goal

pub loop-lead-init : goal.loop-lead-init
loop-lead-init c =
    let m = c.args.method.now in
    record {
      merged = nothing (files_of m) (ordered_from (files_of m) c.requires.linked.1.no_refusal) (body_of m) (tables_in (files_of m) c.args.self.now) c.requires.over;
      looks = λ hs are. are;
      origin = same_origin c.args.origin;
    }

pub merge_lead-requires-clause-over : goal.merge_lead-requires-clause-over
merge_lead-requires-clause-over c = c.loop-lead.invariant.merged.over

pub loop-lead-preserved : goal.loop-lead-preserved
loop-lead-preserved c =
    let m = c.args.method.now in
    let files = files_of m in
    let before = tables_in files c.args.self.now in
    let now = tables_in files c.loop-lead.self in
    let after = tables_in files c.merge_lead.new.self in
    let one = subst (λ leads. HasMerged files (body_of m) now leads after) (leads_kept files c.args.origin c.loop-lead.origin c.loop-lead.invariant.origin (_ ∷ [])) c.in_default-merge_lead.ensures.merged in
    record {
      merged = subst (λ leads. HasMerged files (body_of m) before leads after) (leads_more files c.args.origin c.args.leads.now c.loop-lead.lead-index _ c.loop-lead-test.true) (follows files (ordered_from files c.requires.linked.1.no_refusal) (body_of m) before now after _ _ c.loop-lead.invariant.merged one);
      looks = λ hs are. c.in_default-merge_lead.ensures.looks hs (c.loop-lead.invariant.looks hs are);
      origin = origin_then c.args.origin c.loop-lead.origin c.merge_lead.new.origin c.loop-lead.invariant.origin c.in_default-merge_lead.ensures.origin;
    }

pub returns-in-Err-clause-clash : goal.returns-in-Err-clause-clash
returns-in-Err-clause-clash c =
    let m = c.args.method.now in
    let files = files_of m in
    let before = tables_in files c.args.self.now in
    let now = tables_in files c.loop-lead.self in
    let leads = c.args.leads.now in
    let i = c.loop-lead.lead-index in
    let d : Lead = record { offset = 0; handler = None } in
    let lead = leads_in files c.args.origin (get_or leads i d ∷ []) in
    let rest = leads_in files c.args.origin (drop (i + 1) leads) in
    on_unverified c.in-Err.fault _ _
    (λ clash. subst (Clashes files (member_of m) (body_of m) (typing_of before.types)) (leads_split files c.args.origin leads i d c.loop-lead-test.true) (clashes files (ordered_from files c.requires.linked.1.no_refusal) (body_of m) (member_of m) before now _ lead rest c.loop-lead.invariant.merged (subst (Clashes files (member_of m) (body_of m) (typing_of now.types)) (leads_kept files c.args.origin c.loop-lead.origin c.loop-lead.invariant.origin (get_or leads i d ∷ [])) clash))) c.in-Err.ensures.clash

pub returns-clause-merged : goal.returns-clause-merged
returns-clause-merged c =
    let m = c.args.method.now in
    let files = files_of m in
    subst (λ leads. HasMerged files (body_of m) (tables_in files c.args.self.now) leads (tables_in files c.loop-lead.self)) (all_leads files c.args.origin c.args.leads.now c.loop-lead.lead-index c.loop-lead-test.false) c.loop-lead.invariant.merged

pub merge_lead-requires-clause-known : goal.merge_lead-requires-clause-known
merge_lead-requires-clause-known c =
    let m = c.args.method.now in
    let files = files_of m in
    let d : Lead = record { offset = 0; handler = None } in
    known_on files (ordered_from files c.requires.linked.1.no_refusal).rooted (tables_in files c.args.self.now) (tables_in files c.loop-lead.self) c.loop-lead.invariant.merged.merged.raised c.args.origin c.loop-lead.origin c.loop-lead.invariant.origin c.args.leads.now c.loop-lead.lead-index d c.loop-lead-test.true c.requires.known

pub returns-clause-looks : goal.returns-clause-looks
returns-clause-looks c = c.loop-lead.invariant.looks

pub returns-in-Some-clause-merged : goal.returns-in-Some-clause-merged
returns-in-Some-clause-merged c =
    let m = c.args.method.now in
    subst (λ leads. OnOk c.merge_only.result (MergesInto m c.args.self.now (leads_in (files_of m) c.args.origin leads) c.merge_only.new.self)) (sym c.in-Some.ensures) c.merge_only.ensures.merged

pub returns-in-Some-clause-clash : goal.returns-in-Some-clause-clash
returns-in-Some-clause-clash c =
    let m = c.args.method.now in
    subst (λ leads. IfErr c.merge_only.result (IsClash m c.args.self.now (leads_in (files_of m) c.args.origin leads))) (sym c.in-Some.ensures) c.merge_only.ensures.clash
