use Rattle.std.proofs.Common.{◌∙◌, ap, map, string_bytes, sym}
use Rattle.std.specs.Option.{option_map}
use Rattle.library_files.specs.Adding.{library_file}
use Rattle.engines.proofs.AdviceLemmas.{explained}
use Rattle.engines.proofs.explaining.explain_complaint.Goals as goal

pub returns-in-Ok : goal.returns-in-Ok
returns-in-Ok g c =
    explained (map library_file c.args.library.now) (g.F.Folder.held c.args.folder.now) (g.F.Folder.listed c.args.folder.now) (map string_bytes c.args.words.now) c.args.complaint.now _ _
    c.args.explanation.now c.explain_fault.new.explanation (sym c.fault_of.ensures ∙ ap (option_map (λ f. f.now)) c.in-Some.is) c.in-Ok.ensures.spelled c.explain_fault.ensures
