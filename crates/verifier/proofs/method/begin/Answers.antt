use Rattle.std.proofs.Common.{◌≡◌, ◌∙◌, [], ◌∷◌, length, false, Some, ap, subst, arith}
use Rattle.std.specs.Prelude.{replicate}
use Rattle.model.specs.Tree.{CodeTree}
use Rattle.model.specs.Typing.{entry_type}
use Rattle.run_laws.specs.typing_search.Search.{Clashes}
use Rattle.run_laws.specs.typing_search.Tables.{typing_of}
use Rattle.run_laws.proofs.typing_search.Linking.{ordered_from}
use Rattle.types.specs.method_code.View.{files_of, member_of, body_of}
use Rattle.verifier.specs.Packed.{parts_in}
use Rattle.verifier.specs.Found.{tables_in, HasMerged}
use Rattle.verifier.specs.Worklist.{no_types, all_merged}
use Rattle.verifier.proofs.Entries.{none_found, tables_same, on_unverified}
use Rattle.verifier.proofs.Looked.{unknown}
use Rattle.verifier.proofs.Turns.{begins, refused}
use Rattle.verifier.proofs.method.begin.Goals as goal

pub returns-in-Ok-clause-search : goal.returns-in-Ok-clause-search
returns-in-Ok-clause-search c =
    let m = c.args.method.now in
    let files = files_of m in
    let before = tables_in files c.in_ok-found.found in
    let n : c.len.result ≡ length c.code.result.now.code.items = omega arith in
    let long = n ∙ ap (λ (code : CodeTree). length code.code) c.code.ensures in
    begins files (ordered_from files c.requires.linked.1.no_refusal) (member_of m) (body_of m) before (none_found files c.in_ok-found.found _ _ c.in_ok-found.ensures long) (tables_in files c.merge.new.self) (subst (λ t. HasMerged files (body_of m) before ((0, t) ∷ []) (tables_in files c.merge.new.self)) (ap (parts_in files) c.in_ok-frame-2.ensures ∙ c.in_ok-frame.ensures) c.in-Ok.ensures.merged)

pub returns-in-Ok-clause-begun : goal.returns-in-Ok-clause-begun
returns-in-Ok-clause-begun c =
    let m = c.args.method.now in
    let files = files_of m in
    let before = tables_in files c.in_ok-found.found in
    let after = tables_in files c.merge.new.self in
    let n : c.len.result ≡ length c.code.result.now.code.items = omega arith in
    let long = n ∙ ap (λ (code : CodeTree). length code.code) c.code.ensures in
    let merged = subst (λ t. HasMerged files (body_of m) before ((0, t) ∷ []) after) (ap (parts_in files) c.in_ok-frame-2.ensures ∙ c.in_ok-frame.ensures) c.in-Ok.ensures.merged in
    let none = tables_same before (no_types (body_of m)) (none_found files c.in_ok-found.found _ _ c.in_ok-found.ensures long) (c.in_ok-found.ensures.waiting ∙ ap (λ k. replicate k false) long) in
    subst (λ tables. all_merged files (body_of m) tables ((0, entry_type files (member_of m) (body_of m)) ∷ []) ≡ Some after) none merged.whole

pub returns-in-Err-clause-exact : goal.returns-in-Err-clause-exact
returns-in-Err-clause-exact c =
    let m = c.args.method.now in
    let files = files_of m in
    let before = tables_in files c.in_ok-found.found in
    let n : c.len.result ≡ length c.code.result.now.code.items = omega arith in
    let long = n ∙ ap (λ (code : CodeTree). length code.code) c.code.ensures in
    on_unverified c.in-Err.fault _ _
    (λ clash. refused files (ordered_from files c.requires.linked.1.no_refusal) (member_of m) (body_of m) before (none_found files c.in_ok-found.found _ _ c.in_ok-found.ensures long) (subst (λ t. Clashes files (member_of m) (body_of m) (typing_of before.types) ((0, t) ∷ [])) (ap (parts_in files) c.in_ok-frame-2.ensures ∙ c.in_ok-frame.ensures) clash)) c.in-Err.ensures.clash

pub returns-in-Ok-clause-looks : goal.returns-in-Ok-clause-looks
returns-in-Ok-clause-looks c =
    λ hs. c.in-Ok.ensures.looks hs (unknown c.args.method.now c.in_ok-found.found c.in_ok-found.ensures.looks hs)
