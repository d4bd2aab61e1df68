use Rattle.std.proofs.Common.{◌≡◌, ◌<◌, ◌≤◌, ◌∙◌, arith, false, length, subst, sym, true}
use Rattle.std.specs.Prelude.{slice_get}
use Rattle.std.specs.Option.{option_map_or}
use Rattle.model.specs.Classes.{Program}
use Rattle.search.specs.OwnEdges.{names_own_edge}
use Rattle.search.proofs.OwnEdges.{none_does, none_more, one_does}
use Rattle.search.proofs.own_edges.names_own_edges.Goals as goal

pub returns-then-is_naming : goal.returns-then-is_naming
returns-then-is_naming c =
    sym (one_does c.args.linked.now c.files.number
    (subst (λ (files : Program). option_map_or names_own_edge (slice_get files c.files.number) false ≡ true) c.set-set.ensures.same (sym c.is_naming.ensures ∙ c.if-is_naming.true)))

pub files-preserved : goal.files-preserved
files-preserved c =
    let lt : c.files.number < length c.args.linked.now =
    subst (λ (files : Program). c.files.number < length files) c.set-set.ensures.same (omega (arith, c.files-test.true, c.file_count-count.ensures.count)) in
    none_more c.args.linked.now c.files.number lt c.files.invariant
    (subst (λ (files : Program). option_map_or names_own_edge (slice_get files c.files.number) false ≡ false) c.set-set.ensures.same (sym c.is_naming.ensures ∙ c.if-is_naming.false))

pub returns : goal.returns
returns c =
    let all : length c.args.linked.now ≤ c.files.number =
    subst (λ (files : Program). length files ≤ c.files.number) c.set-set.ensures.same (omega (arith, c.files-test.false, c.file_count-count.ensures.count)) in
    sym (none_does c.args.linked.now c.files.number all c.files.invariant)
