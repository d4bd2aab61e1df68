use Rattle.std.proofs.Common.{◌≡◌, ◌∙◌, true, false, sym, ap, subst, arith, ⊎_elim}
use Rattle.std.specs.Option.{option_map_or}
use Rattle.std.proofs.lemmas.Bool.Decides.{eqb_tells}
use Rattle.hierarchy.specs.Places.{class_at}
use Rattle.hierarchy.specs.Lineages.{has_lineage}
use Rattle.hierarchy.proofs.lineage.have_lineages.Goals as goal

pub loop-place-preserved : goal.loop-place-preserved
loop-place-preserved c p l =
    let files = c.args.set.now in
    let table = c.args.table.now in
    let place = c.loop-place.place in
    let here : option_map_or (has_lineage files table place) (class_at files place) false ≡ true =
    ap (λ o. option_map_or (has_lineage files table place) o false) (sym c.in-Some.ensures) ∙ sym c.has_lineage.ensures ∙ c.if-not-has_lineage.false in
    ⊎_elim
    (λ e. subst (λ k. option_map_or (has_lineage files table k) (class_at files k) false ≡ true) (sym e.1) here)
    (λ e. c.loop-place.invariant p (omega (arith, l, e.1)))
    (eqb_tells p place)
