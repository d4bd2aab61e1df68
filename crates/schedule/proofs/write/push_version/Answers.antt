use Rattle.std.proofs.Common.{[], ◌∷◌, ◌++◌, ◌∙◌, ap}
use Rattle.schedule.specs.Files.{recording, version_of}
use Rattle.schedule.proofs.Texts.{two_parts}
use Rattle.schedule.proofs.write.push_version.Goals as goal

pub returns-in_ok-push_recording-in-Some-clause-written : goal.returns-in_ok-push_recording-in-Some-clause-written
returns-in_ok-push_recording-in-Some-clause-written c =
    rw c.in-Some.is (two_parts c.args.bytes.now.items (version_of c.in-Some.recording.now.checksums ∷ []) (recording c.in-Some.recording.now) c.extend_from_slice-in-Some.new.self.items c.push_recording.new.bytes.items (c.in_ok-extend_from_slice-in-Some.ensures.items ∙ ap (λ v. c.args.bytes.now.items ++ v ∷ []) c.version_of.ensures) c.in_ok-push_recording-in-Some.ensures.written)
