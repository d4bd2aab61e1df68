use Rattle.schedule.proofs.schedule_text.ChecksumLaws.{AreChecksumsAhead}
use Rattle.schedule.proofs.schedule_text.checksum_words.checksums.Given as goal

abbrev pub invariant-checksums : goal.invariant-checksums
invariant-checksums l = AreChecksumsAhead l.count l.fn.words l.checksums.items l.counter l.words
