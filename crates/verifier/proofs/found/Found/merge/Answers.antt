use Rattle.std.proofs.Common.{◌≡◌, ◌∙◌, ℕ, get_or, true, false, subst, refl, sym, ap, arith}
use Rattle.std.specs.Global.{Vec}
use Rattle.std.specs.Prelude.{IfSome, Some, slice_set}
use Rattle.run_laws.specs.typing_search.Tables.{entry_of}
use Rattle.run_laws.proofs.typing_search.Linking.{ordered_from}
use Rattle.run_laws.proofs.typing_search.Merging.{clash_apart, clash_oversized}
use Rattle.types.specs.method_code.View.{files_of, member_of, body_of}
use Rattle.verifier.specs.Packed.{parts_in}
use Rattle.verifier.specs.Changes.{PartsDiffer}
use Rattle.verifier.specs.Looks.{RaisesTo}
use Rattle.verifier.specs.Raised.{Raises}
use Rattle.verifier.specs.Found.{tables_in}
use Rattle.verifier.proofs.Entries.{start_within, read_at}
use Rattle.verifier.proofs.Merges.{fits}
use Rattle.verifier.proofs.Passing.{raises_whole}
use Rattle.verifier.proofs.Puts.{there_at, first_put, joined_put}
use Rattle.verifier.proofs.found.Found.merge.Goals as goal

pub returns-then-not-is_sized-clause-clash : goal.returns-then-not-is_sized-clause-clash
returns-then-not-is_sized-clause-clash c =
    let files = files_of c.args.method.now in
    let ordered = ordered_from files c.requires.linked.1.no_refusal in
    clash_oversized files (body_of c.args.method.now) ordered.rooted (member_of c.args.method.now) _ c.args.edge.to (parts_in files c.args.frame.now) (c.if-not-is_sized.ensures.other refl)

pub index-requires : goal.index-requires
index-requires c =
    let l = (start_within (files_of c.args.method.now) (body_of c.args.method.now) c.args.self.now c.args.starts.now c.args.edge.to _ c.requires.starts c.requires.over c.is_start.ensures c.if-not-is_start.false).0 in
    omega (arith, l)

pub put-requires-clause-typed : goal.put-requires-clause-typed
put-requires-clause-typed c =
    (start_within (files_of c.args.method.now) (body_of c.args.method.now) c.args.self.now c.args.starts.now c.args.edge.to _ c.requires.starts c.requires.over c.is_start.ensures c.if-not-is_start.false).0

pub put-requires-clause-waiting : goal.put-requires-clause-waiting
put-requires-clause-waiting c =
    (start_within (files_of c.args.method.now) (body_of c.args.method.now) c.args.self.now c.args.starts.now c.args.edge.to _ c.requires.starts c.requires.over c.is_start.ensures c.if-not-is_start.false).1

pub put_join-requires-clause-typed : goal.put_join-requires-clause-typed
put_join-requires-clause-typed c =
    (start_within (files_of c.args.method.now) (body_of c.args.method.now) c.args.self.now c.args.starts.now c.args.edge.to _ c.requires.starts c.requires.over c.is_start.ensures c.if-not-is_start.false).0

pub put_join-requires-clause-waiting : goal.put_join-requires-clause-waiting
put_join-requires-clause-waiting c =
    (start_within (files_of c.args.method.now) (body_of c.args.method.now) c.args.self.now c.args.starts.now c.args.edge.to _ c.requires.starts c.requires.over c.is_start.ensures c.if-not-is_start.false).1

pub returns-in_default-clause-merged : goal.returns-in_default-clause-merged
returns-in_default-clause-merged c =
    let m = c.args.method.now in
    let files = files_of m in
    let start = sym c.is_start.ensures ∙ c.if-not-is_start.false in
    let within = start_within files (body_of m) c.args.self.now c.args.starts.now c.args.edge.to _ c.requires.starts c.requires.over c.is_start.ensures c.if-not-is_start.false in
    let at = read_at files c.args.self.now.types.items c.args.edge.to _ _ within.0 c.index.ensures c.in_default.is in
    let written = c.put.ensures.types ∙ ap (λ copy. slice_set c.args.self.now.types.items c.args.edge.to (Some copy)) c.in_ok-copy.ensures in
    (first_put m (ordered_from files c.requires.linked.1.no_refusal) c.args.self.now c.put.new.self c.requires.over c.args.edge.to c.args.frame.now c.put.ensures.waiting at (subst (λ l. get_or l c.args.edge.to false ≡ true) c.requires.starts start) (c.if-not-is_sized.ensures.sized refl) written c.put.ensures.looks).0

pub returns-in_default-clause-looks : goal.returns-in_default-clause-looks
returns-in_default-clause-looks c =
    let m = c.args.method.now in
    let files = files_of m in
    let start = sym c.is_start.ensures ∙ c.if-not-is_start.false in
    let within = start_within files (body_of m) c.args.self.now c.args.starts.now c.args.edge.to _ c.requires.starts c.requires.over c.is_start.ensures c.if-not-is_start.false in
    let at = read_at files c.args.self.now.types.items c.args.edge.to _ _ within.0 c.index.ensures c.in_default.is in
    let written = c.put.ensures.types ∙ ap (λ copy. slice_set c.args.self.now.types.items c.args.edge.to (Some copy)) c.in_ok-copy.ensures in
    (first_put m (ordered_from files c.requires.linked.1.no_refusal) c.args.self.now c.put.new.self c.requires.over c.args.edge.to c.args.frame.now c.put.ensures.waiting at (subst (λ l. get_or l c.args.edge.to false ≡ true) c.requires.starts start) (c.if-not-is_sized.ensures.sized refl) written c.put.ensures.looks).1

pub returns-in-Ok-Not-clause-merged : goal.returns-in-Ok-Not-clause-merged
returns-in-Ok-Not-clause-merged c =
    let files = files_of c.args.method.now in
    let body = body_of c.args.method.now in
    let within = start_within files body c.args.self.now c.args.starts.now c.args.edge.to _ c.requires.starts c.requires.over c.is_start.ensures c.if-not-is_start.false in
    let at = read_at files c.args.self.now.types.items c.args.edge.to _ _ within.0 c.index.ensures c.in-Some.is in
    fits files (ordered_from files c.requires.linked.1.no_refusal) body (tables_in files c.args.self.now) c.requires.over c.args.edge.to (parts_in files c.args.frame.now) (parts_in files c.in-Some.there) at (subst (Raises files c.in-Some.there c.args.frame.now) c.in-Ok-Not.field-0-is c.in-Ok-Not.ensures)

pub returns-in-Ok-Clash-clause-clash : goal.returns-in-Ok-Clash-clause-clash
returns-in-Ok-Clash-clause-clash c =
    let files = files_of c.args.method.now in
    let body = body_of c.args.method.now in
    let within = start_within files body c.args.self.now c.args.starts.now c.args.edge.to _ c.requires.starts c.requires.over c.is_start.ensures c.if-not-is_start.false in
    let at = read_at files c.args.self.now.types.items c.args.edge.to _ _ within.0 c.index.ensures c.in-Some.is in
    clash_apart files body (ordered_from files c.requires.linked.1.no_refusal).rooted (member_of c.args.method.now) _ c.args.edge.to (parts_in files c.args.frame.now) (parts_in files c.in-Some.there) (ap entry_of at) (subst (Raises files c.in-Some.there c.args.frame.now) c.in-Ok-Clash.field-0-is c.in-Ok-Clash.ensures)

pub returns-in_ok-put_join-in-Ok-To-clause-merged : goal.returns-in_ok-put_join-in-Ok-To-clause-merged
returns-in_ok-put_join-in-Ok-To-clause-merged c =
    let m = c.args.method.now in
    let files = files_of m in
    let within = start_within files (body_of m) c.args.self.now c.args.starts.now c.args.edge.to _ c.requires.starts c.requires.over c.is_start.ensures c.if-not-is_start.false in
    let at = there_at c.args.self.now.types.items c.args.edge.to _ _ within.0 c.index.ensures c.in-Some.is in
    let raised = subst (Raises files c.in-Some.there c.args.frame.now) c.in-Ok-To.field-0-is c.in-Ok-To.ensures in
    (joined_put m (ordered_from files c.requires.linked.1.no_refusal) c.args.self.now c.put_join.new.self c.requires.over c.args.edge.to c.args.frame.now c.in_ok-put_join-in-Ok-To.ensures.waiting c.in-Some.there c.in-Ok-To.join at raised.0 raised.1 c.in_ok-put_join-in-Ok-To.ensures.types c.in_ok-put_join-in-Ok-To.ensures.looks).0

pub returns-in_ok-put_join-in-Ok-To-clause-looks : goal.returns-in_ok-put_join-in-Ok-To-clause-looks
returns-in_ok-put_join-in-Ok-To-clause-looks c =
    let m = c.args.method.now in
    let files = files_of m in
    let within = start_within files (body_of m) c.args.self.now c.args.starts.now c.args.edge.to _ c.requires.starts c.requires.over c.is_start.ensures c.if-not-is_start.false in
    let at = there_at c.args.self.now.types.items c.args.edge.to _ _ within.0 c.index.ensures c.in-Some.is in
    let raised = subst (Raises files c.in-Some.there c.args.frame.now) c.in-Ok-To.field-0-is c.in-Ok-To.ensures in
    (joined_put m (ordered_from files c.requires.linked.1.no_refusal) c.args.self.now c.put_join.new.self c.requires.over c.args.edge.to c.args.frame.now c.in_ok-put_join-in-Ok-To.ensures.waiting c.in-Some.there c.in-Ok-To.join at raised.0 raised.1 c.in_ok-put_join-in-Ok-To.ensures.types c.in_ok-put_join-in-Ok-To.ensures.looks).1

pub returns-in-Some-2-clause-merged : goal.returns-in-Some-2-clause-merged
returns-in-Some-2-clause-merged c =
    let m = c.args.method.now in
    let within = start_within (files_of m) (body_of m) c.args.self.now c.args.starts.now c.args.edge.to _ c.requires.starts c.requires.over c.is_start.ensures c.if-not-is_start.false in
    let at = there_at c.args.self.now.types.items c.args.edge.to _ _ within.0 c.index.ensures c.in-Some.is in
    (raises_whole m (ordered_from (files_of m) c.requires.linked.1.no_refusal) c.args.self.now c.requires.over c.args.edge.to c.in-Some.there c.args.frame.now c.in-Some-2.changed.items at
    (subst (λ o. IfSome o (λ (v : Vec ℕ). PartsDiffer v.items c.in-Some.there c.args.frame.now)) c.in-Some-2.is c.in_ok-changed.ensures) c.raise.new.self
    (subst (λ l. RaisesTo m c.args.self.now c.args.edge.to c.args.frame.now l c.raise.new.self) c.deref.ensures.value c.in_ok-raise.ensures.raised)).0

pub returns-in-Some-2-clause-looks : goal.returns-in-Some-2-clause-looks
returns-in-Some-2-clause-looks c =
    let m = c.args.method.now in
    let within = start_within (files_of m) (body_of m) c.args.self.now c.args.starts.now c.args.edge.to _ c.requires.starts c.requires.over c.is_start.ensures c.if-not-is_start.false in
    let at = there_at c.args.self.now.types.items c.args.edge.to _ _ within.0 c.index.ensures c.in-Some.is in
    (raises_whole m (ordered_from (files_of m) c.requires.linked.1.no_refusal) c.args.self.now c.requires.over c.args.edge.to c.in-Some.there c.args.frame.now c.in-Some-2.changed.items at
    (subst (λ o. IfSome o (λ (v : Vec ℕ). PartsDiffer v.items c.in-Some.there c.args.frame.now)) c.in-Some-2.is c.in_ok-changed.ensures) c.raise.new.self
    (subst (λ l. RaisesTo m c.args.self.now c.args.edge.to c.args.frame.now l c.raise.new.self) c.deref.ensures.value c.in_ok-raise.ensures.raised)).1
