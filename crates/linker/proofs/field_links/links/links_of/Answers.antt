use Rattle.std.proofs.Common.{◌∙◌, length, ap}
use Rattle.model.specs.Classes.{Program}
use Rattle.model.specs.Opening.{static_fields}
use Rattle.linker.specs.declared.field_links.chain.Counted.TheVariants as counted
use Rattle.linker.specs.field_links.Slots.{sizes}
use Rattle.linker.proofs.field_links.TableLaws.{sizes_say, slots_kept}
use Rattle.linker.proofs.field_links.links.links_of.Goals as goal

pub returns : goal.returns
returns c =
    let files = c.args.hierarchy.now in
    record {
      rows = c.in_ok-rows.ensures;
      sizes = sizes_say files counted.Fields c.in_ok-instances.instances.items (c.in_ok-instances.ensures ∙ ap (sizes counted.Fields) c.set-set.ensures);
      cells = sizes_say files counted.Cells c.in_ok-cells.cells.items (c.in_ok-cells.ensures ∙ ap (sizes counted.Cells) c.set-set.ensures);
      statics = c.in_ok-statics.ensures.count ∙ ap (λ (f : Program). length (static_fields f)) c.set-set.ensures;
      kept = slots_kept files c.requires;
    }
