use Rattle.std.proofs.Common.{◌≡◌, List, ℕ, length, sym, subst, arith}
use Rattle.model.specs.Spells.{Spells}
use Rattle.advice.proofs.ReadLaws.{read_init, read_step, read_all}
use Rattle.advice.proofs.reading.read_files.Goals as goal

pub loop-file-init : goal.loop-file-init
loop-file-init c = read_init _ _ c.empty-read.ensures.classes c.empty-read.ensures.places

pub loop-file-preserved : goal.loop-file-preserved
loop-file-preserved c =
    read_step c.args.files.now c.loop-file.file-index c.file-item.result _ _ _ _ c.in_ok-one.one.class (omega (arith, c.loop-file-test.true)) c.file-item.is
    c.loop-file.invariant
    (λ tree h. c.in_ok-one.ensures tree (subst (λ (l : List ℕ). Spells l tree) (sym c.deref.ensures.value) h)) c.in_ok-push.ensures.classes c.in_ok-push.ensures.places

pub returns : goal.returns
returns c =
    let all : c.loop-file.file-index ≡ length c.args.files.now = omega (arith, c.loop-file-test.false) in
    read_all c.args.files.now c.loop-file.file-index _ _ all c.loop-file.invariant
