use Rattle.std.proofs.Common.{subst}
use Rattle.place_texts.specs.Places.{deed_of}
use Rattle.place_texts.specs.Texts.{SpellsDeed}
use Rattle.place_texts.proofs.Spelled.{longer}
use Rattle.place_texts.proofs.read.placed_deeds.Goals as goal

pub words-preserved : goal.words-preserved
words-preserved c =
    let told = rw c.in-Some.is at c.in_ok-deed.ensures in
    longer c.args.words.now c.words.word-index c.word-item.result c.words.deeds.items c.push.new.self.items _ c.words-test.true c.word-item.is c.words.invariant
    c.in_ok-push-in-Some.ensures.items (subst (λ l. SpellsDeed l (deed_of c.in-Some.deed)) c.deref.ensures.value told.0)
