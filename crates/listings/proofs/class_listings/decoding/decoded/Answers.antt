use Rattle.listings.proofs.class_listings.Listed.{refused_so}
use Rattle.listings.proofs.class_listings.decoding.decoded.Goals as goal

pub returns-in-Err-clause-refused : goal.returns-in-Err-clause-refused
returns-in-Err-clause-refused c =
    let ensures = c.in-Err.ensures in
    refused_so c.args.bytes.now c.args.number c.in-Err.fault c.refusal.result c.refusal.ensures.memory c.refusal.ensures.cause ensures.only ensures.refused
