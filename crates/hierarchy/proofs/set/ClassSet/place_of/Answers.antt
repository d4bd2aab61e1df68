use Rattle.std.proofs.Common.{◌∙◌, sym, ap, List}
use Rattle.std.specs.Prelude.{position}
use Rattle.model.specs.Tree.{FileTree}
use Rattle.model.specs.Classes.{is_named}
use Rattle.hierarchy.specs.Set.{trees_of}
use Rattle.hierarchy.specs.Places.{place_of}
use Rattle.hierarchy.proofs.SetLaws.{position_by_name}
use Rattle.hierarchy.proofs.set.ClassSet.place_of.Goals as goal

pub returns : goal.returns
returns c =
    let set = c.self.inside in
    record {
      place =
          c.get_index_of.ensures.index
          ∙ position_by_name _ set.names.keys (trees_of set.classes.items) c.args.name.now c.self.invariant.named
          ∙ ap (λ (l : List FileTree). position (is_named c.args.name.now) l) (sym c.self.invariant.whole)
          ∙ ap (λ files. place_of files c.args.name.now) c.self.view_is;
    }
