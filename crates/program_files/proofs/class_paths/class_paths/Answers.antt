use Rattle.std.proofs.Common.{map, refl, string_bytes}
use Rattle.std.proofs.lemmas.List.Sorted.{IsPermutation-map}
use Rattle.program_files.proofs.class_paths.class_paths.Goals as goal

pub returns-clause-files : goal.returns-clause-files
returns-clause-files g c = record {
  met = map string_bytes c.in_ok-paths.paths.items;
  below = c.in_ok-paths.ensures.files;
  sorted = c.sort.new.self.items;
  same = IsPermutation-map string_bytes _ _ c.sort.ensures.permutation;
  in_order = c.in_ok-sort.ensures.sorted;
  are = refl;
}
