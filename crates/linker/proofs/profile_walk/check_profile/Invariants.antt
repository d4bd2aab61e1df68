use Rattle.std.proofs.Common.{◌≡◌, false, take}
use Rattle.std.specs.List.{list_any}
use Rattle.model.specs.Profile.{is_outside_profile}
use Rattle.model.specs.CodeConditions.{has_malformed_code}
use Rattle.linker.proofs.profile_walk.check_profile.Given as goal

abbrev pub invariant-loop-number : goal.invariant-loop-number
invariant-loop-number l = record {
  inside : list_any is_outside_profile (take l.number l.set) ≡ false;
  whole : list_any (has_malformed_code l.set) (take l.number l.set) ≡ false;
}
