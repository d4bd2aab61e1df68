use Rattle.std.proofs.Common.{◌≡◌, arith}
use Rattle.schedule.proofs.schedule_text.ChecksumLaws.{all_read, no_checksum, one_more}
use Rattle.schedule.proofs.schedule_text.LimitLaws.{same_pair}
use Rattle.schedule.proofs.schedule_text.checksum_words.checksums.Goals as goal

pub returns-in_default-clause-only : goal.returns-in_default-clause-only
returns-in_default-clause-only c = λ ns rest fit all spelled.
    absurd (no_checksum c.args.count c.checksums.counter c.args.words.now c.checksums.checksums.items c.checksums.words c.checksums.invariant c.checksums-test.true
    (λ m more small is. c.in_default.not-Some m (c.checksum.ensures.only m more small is).0) ns rest fit all spelled)

pub checksums-preserved : goal.checksums-preserved
checksums-preserved c = one_more c.args.count c.checksums.counter c.args.words.now c.checksums.checksums.items c.checksums.words c.checksum.new.words c.in-Some.checksum
    c.checksums.invariant c.checksums-test.true (omega arith) c.in-Some.ensures.found c.push.new.self.items c.in_ok-push.ensures.items

pub returns-clause-only : goal.returns-clause-only
returns-clause-only c = λ ns rest fit all spelled.
    let end : c.checksums.counter ≡ c.args.count = omega (arith, c.checksums-test.false, c.checksums.auto.counter-end) in
    let p = all_read c.args.count c.checksums.counter c.args.words.now c.checksums.checksums.items c.checksums.words c.checksums.invariant end ns rest fit all spelled in
    same_pair _ _ _ _ p.0 p.1
