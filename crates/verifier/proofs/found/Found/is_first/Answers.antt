use Rattle.std.proofs.Common.{◌∙◌, get_or, true, false, subst, sym, arith}
use Rattle.std.specs.Prelude.{◌≡◌}
use Rattle.types.specs.method_code.View.{files_of, body_of}
use Rattle.verifier.proofs.Entries.{start_within, read_at}
use Rattle.verifier.proofs.found.Found.is_first.Goals as goal

pub index-requires : goal.index-requires
index-requires c =
    let l = (start_within (files_of c.args.method.now) (body_of c.args.method.now) c.args.self.now c.args.starts.now c.args.to _ c.requires.starts c.requires.over c.is_start.ensures c.if-not-is_start.false).0 in
    omega (arith, l)

pub returns-in-None : goal.returns-in-None
returns-in-None c =
    let files = files_of c.args.method.now in
    let within = start_within files (body_of c.args.method.now) c.args.self.now c.args.starts.now c.args.to _ c.requires.starts c.requires.over c.is_start.ensures c.if-not-is_start.false in
    λ sized. record {
      start = subst (λ l. get_or l c.args.to false ≡ true) c.requires.starts (sym c.is_start.ensures ∙ c.if-not-is_start.false);
      none = read_at files c.args.self.now.types.items c.args.to _ _ within.0 c.index.ensures c.in-None.is;
      size = c.is_sized.ensures.sized sized;
    }
