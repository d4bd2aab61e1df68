use Rattle.std.proofs.Common.{◌≡◌, ◌<◌, ◌≤◌, ◌∙◌, length, true, false, ap, sym, subst, arith}
use Rattle.std.specs.Prelude.{Some}
use Rattle.std.specs.List.{list_all}
use Rattle.std.proofs.lemmas.List.{length-map}
use Rattle.run_laws.proofs.typing_search.Linking.{ordered_from}
use Rattle.run_laws.specs.typing_search.Tables.{entry_of, waiting_at}
use Rattle.types.specs.method_code.View.{files_of, body_of}
use Rattle.verifier.specs.Changes.{fits}
use Rattle.verifier.specs.Looks.{NotesAt}
use Rattle.verifier.proofs.Entries.{read_at}
use Rattle.verifier.proofs.Passing.{over_written, raises_past, raises_nothing, raises_fit, raises_join}
use Rattle.verifier.proofs.Puts.{there_at}
use Rattle.verifier.proofs.found.Found.raise.Goals as goal

pub returns-then-to-len-clause-raised : goal.returns-then-to-len-clause-raised
returns-then-to-len-clause-raised c =
    let m = c.args.method.now in
    let long : c.len.result ≡ length c.args.self.now.types.items = omega arith in
    raises_past m (ordered_from (files_of m) c.requires.linked.1.no_refusal) c.args.self.now c.args.to c.args.frame.now c.args.changed.now (subst (λ n. n ≤ c.args.to) long c.if-to-len.true)

pub returns-in_default-clause-raised : goal.returns-in_default-clause-raised
returns-in_default-clause-raised c =
    let m = c.args.method.now in
    let long : c.len.result ≡ length c.args.self.now.types.items = omega arith in
    let at = read_at (files_of m) c.args.self.now.types.items c.args.to _ _ (subst (λ n. c.args.to < n) long c.if-to-len.false) c.index.ensures c.in_default.is in
    raises_nothing m (ordered_from (files_of m) c.requires.linked.1.no_refusal) c.args.self.now c.args.to c.args.frame.now c.args.changed.now (ap entry_of at)

pub returns-then-all_fit-clause-raised : goal.returns-then-all_fit-clause-raised
returns-then-all_fit-clause-raised c =
    let m = c.args.method.now in
    let long : c.len.result ≡ length c.args.self.now.types.items = omega arith in
    let at = there_at c.args.self.now.types.items c.args.to _ _ (subst (λ n. c.args.to < n) long c.if-to-len.false) c.index.ensures c.in-Some.is in
    raises_fit m (ordered_from (files_of m) c.requires.linked.1.no_refusal) c.args.self.now c.requires.over c.args.to c.in-Some.there c.args.frame.now c.args.changed.now at (subst (λ set. list_all (fits set c.in-Some.there c.args.frame.now) c.args.changed.now ≡ true) c.set.ensures (sym c.all_fit.ensures ∙ c.if-all_fit.true))

pub returns-clause-raised : goal.returns-clause-raised
returns-clause-raised c =
    let m = c.args.method.now in
    let long : c.len.result ≡ length c.args.self.now.types.items = omega arith in
    let before = c.args.self.now in
    let at = there_at before.types.items c.args.to _ _ (subst (λ n. c.args.to < n) long c.if-to-len.false) c.index.ensures c.in-Some.is in
    let has = c.in_ok-join_at.ensures.types c.in-Some.there at in
    raises_join m (ordered_from (files_of m) c.requires.linked.1.no_refusal) before c.requires.over c.args.to c.in-Some.there c.args.frame.now c.args.changed.now at (record c.note.new.self { waiting = c.add.new.self }) has.join
    (subst (λ set. list_all (fits set c.in-Some.there c.args.frame.now) c.args.changed.now ≡ false) c.set.ensures (sym c.all_fit.ensures ∙ c.if-all_fit.false)) has.joined
    (c.in_ok-note.ensures.types ∙ has.set) (c.add.ensures ∙ ap (λ w. waiting_at w c.args.to) (c.in_ok-note.ensures.waiting ∙ c.join_at.ensures.waiting))
    (subst (λ looks. NotesAt c.args.to c.args.changed.now looks c.note.new.self.looks.items) c.join_at.ensures.looks c.in_ok-note.ensures.looks)

pub returns-clause-over : goal.returns-clause-over
returns-clause-over c =
    let m = c.args.method.now in
    let long : c.len.result ≡ length c.args.self.now.types.items = omega arith in
    let before = c.args.self.now in
    let at = there_at before.types.items c.args.to _ _ (subst (λ n. c.args.to < n) long c.if-to-len.false) c.index.ensures c.in-Some.is in
    let has = c.in_ok-join_at.ensures.types c.in-Some.there at in
    over_written m (ordered_from (files_of m) c.requires.linked.1.no_refusal) before (record c.note.new.self { waiting = c.add.new.self }) c.args.to (Some has.join)
    (c.in_ok-note.ensures.types ∙ has.set) (c.add.ensures ∙ ap (λ w. waiting_at w c.args.to) (c.in_ok-note.ensures.waiting ∙ c.join_at.ensures.waiting)) c.requires.over

pub add-requires : goal.add-requires
add-requires c =
    let m = c.args.method.now in
    let long : c.len.result ≡ length c.args.self.now.types.items = omega arith in
    let over = c.requires.over in
    let waiting = over.waiting in
    let types : length c.args.self.now.types.items ≡ length (body_of m).code.code = sym (length-map c.args.self.now.types.items _) ∙ over.types in
    let within = subst (λ n. c.args.to < n) long c.if-to-len.false in
    let same : length c.note.new.self.waiting ≡ length c.args.self.now.waiting = ap length (c.in_ok-note.ensures.waiting ∙ c.join_at.ensures.waiting) in
    omega (arith, within, types, waiting, same)
