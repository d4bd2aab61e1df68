use Rattle.std.proofs.Common.{List, sym, subst}
use Rattle.hierarchy.specs.declared.lineage.Lineage.{Lineage}
use Rattle.hierarchy.specs.Set.{trees_of, files_of}
use Rattle.hierarchy.specs.Lineages.{HasLineages}
use Rattle.hierarchy.proofs.set.ClassSet.is_subclass_at.Goals as goal

pub is_subclass_by-requires : goal.is_subclass_by-requires
is_subclass_by-requires c =
    let set = c.self.inside in
    record {
      told =
          subst (λ files. HasLineages files c.deref.result.now) c.self.view_is
          (subst (λ (table : List Lineage). HasLineages (files_of (trees_of set.classes.items)) table) (sym c.deref.ensures.value) c.self.invariant.lineages);
    }
