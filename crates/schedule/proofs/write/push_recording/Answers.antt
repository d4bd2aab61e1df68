use Rattle.std.proofs.Common.{◌≡◌, ◌∙◌, ◌++◌, ap, length, List, ℕ, subst}
use Rattle.std.specs.List.{flat_map}
use Rattle.byteorder.specs.Endian.{big_bytes}
use Rattle.model.specs.declared.limits.Limits.{Limits}
use Rattle.model.specs.Schedule.{limits}
use Rattle.schedule.specs.Files.{checked}
use Rattle.schedule.proofs.Texts.{four_parts}
use Rattle.schedule.proofs.write.push_recording.Goals as goal

pub returns-clause-written : goal.returns-clause-written
returns-clause-written c =
    let r = c.args.recording.now in
    let first = subst (λ (l : Limits). c.push_limits.new.bytes.items ≡ c.args.bytes.now.items ++ limits l) c.limits.ensures c.in_ok-push_limits.ensures in
    let second = subst (λ (l : List ℕ). c.push_number.new.bytes.items ≡ c.push_limits.new.bytes.items ++ big_bytes 4 (length l)) c.lengths-lengths.ensures.are c.in_ok-push_number.ensures in
    let third = subst (λ (l : List ℕ). c.push_longs.new.bytes.items ≡ c.push_number.new.bytes.items ++ flat_map (big_bytes 8) l) c.lengths-lengths.ensures.are c.in_ok-push_longs.ensures in
    let fourth = c.in_ok-push_checked.ensures ∙ ap (λ l. c.push_longs.new.bytes.items ++ checked l) c.checksums.ensures.are in
    four_parts c.args.bytes.now.items (limits r.limits) (big_bytes 4 (length r.lengths)) (flat_map (big_bytes 8) r.lengths) (checked r.checksums)
    c.push_limits.new.bytes.items c.push_number.new.bytes.items c.push_longs.new.bytes.items c.push_checked.new.bytes.items first second third fourth
