use Rattle.run_laws.proofs.typing_search.Merging.{clash_apart, clash_oversized, clash_astray}
use Rattle.run_laws.proofs.typing_search.a_frame_type_clashes.Goals as goal

pub returns : goal.returns
returns c =
    record {
      holds = λ files ordered method body.
          record { apart = clash_apart files body ordered.rooted method; oversized = clash_oversized files body ordered.rooted method; astray = clash_astray files method body };
    }
