use Rattle.std.proofs.Common.{◌∙◌, ap, sym}
use Rattle.std.specs.List.{list_any}
use Rattle.constant_pool.specs.View.{entry_of}
use Rattle.constant_pool.proofs.Passing.{any_map}
use Rattle.search.specs.OwnEdges.{is_own_edge}
use Rattle.search.proofs.own_edges.names_own_edge.Goals as goal

pub returns : goal.returns
returns c =
    c.any_is_own_edge.ensures
    ∙ (sym (any_map (is_own_edge c.args.file.now.pool) entry_of c.constants.result.now) ∙ ap (list_any (is_own_edge c.args.file.now.pool)) c.constants.ensures)
