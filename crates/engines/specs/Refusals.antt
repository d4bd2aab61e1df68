-- Why class files are refused (JVMS 4.8, 4.10, 5.4).
use Rattle.std.specs.Prelude.{◌≡◌, ◌⊎◌, ℕ, List}
use Rattle.model.specs.Accepted.{IsAccepted}
use Rattle.model.specs.Classes.{Program}
use Rattle.model.specs.Linkable.{IsLinkable}
use Rattle.linker.specs.Linking.{MayRefuse}
use Rattle.linker.specs.Telling.{TellsLineOf}
use Rattle.verifier.specs.Steps.{most_steps, all_steps}
use Rattle.verifier.specs.Places.{IsTooLong, Refuses}
use Rattle.link_conditions.specs.declared.refusal.why.Refusal.{Refusal}
use Rattle.link_conditions.specs.declared.refusal.why.RefusalKind.TheVariants as kinds

-- Accepted class files are refused for want of memory, or where their verification may take more steps than it is given, and for
-- nothing else. Others are refused as linking refuses them, or as verification refuses what is linked.
pub record IsRefused (files : List (List ℕ)) (refusal : Refusal) : Type 0 where
  pub accepted : (trees : Program) → IsAccepted files trees
      → (refusal.kind ≡ kinds.OutOfMemory) ⊎ IsTooLong trees (all_steps trees) most_steps refusal
  pub stands : (MayRefuse files refusal.kind refusal.file refusal.offset refusal.cause × TellsLineOf files refusal.kind refusal)
      ⊎ ((trees : Program) × IsLinkable files trees × Refuses trees most_steps refusal)
