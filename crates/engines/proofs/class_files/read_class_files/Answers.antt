use Rattle.std.proofs.Common.{arith, ◌≡◌, ◌<◌, ◌+◌, [], ◌∷◌, ◌++◌, length, map, vec_items, ◌∙◌, ap, subst}
use Rattle.std.specs.Prelude.{if◌then◌else◌}
use Rattle.std.proofs.lemmas.List.{drop-set-lt}
use Rattle.std.proofs.lemmas.Result.{err_from_is_err_and}
use Rattle.engines.specs.Engines.{Reads}
use Rattle.engines.proofs.EngineLemmas.{next_same, reads_next, counts_among, none_failed}
use Rattle.engines.proofs.class_files.read_class_files.Goals as goal

pub returns-in_err-bytes-clause-kept : goal.returns-in_err-bytes-clause-kept
returns-in_err-bytes-clause-kept g c =
    let p = err_from_is_err_and c.from_residual.result c.from_residual.ensures.1 in
    rw (p.1, p.2) (λ left options. c.in_err-bytes.ensures.kept left (map g.S.Source.remaining c.args.files.now) options)

pub returns-in_err-bytes-clause-of_file : goal.returns-in_err-bytes-clause-of_file
returns-in_err-bytes-clause-of_file g c =
    let p = err_from_is_err_and c.from_residual.result c.from_residual.ensures.1 in
    let within : c.loop-number.number < length c.args.files.now = omega (arith, c.loop-number-test.true, c.loop-number.auto.number-end, c.loop-number.auto.files) in
    rw (p.1, p.2) (c.loop-number.number, within, c.in_err-bytes.ensures.of_file)

pub returns-in_err-bytes-clause-counted : goal.returns-in_err-bytes-clause-counted
returns-in_err-bytes-clause-counted g c =
    let p = err_from_is_err_and c.from_residual.result c.from_residual.ensures.1 in
    let within : c.loop-number.number < length c.loop-number.files = omega (arith, c.loop-number-test.true, c.loop-number.auto.number-end, c.loop-number.auto.files) in
    rw (p.1, p.2) (counts_among g.S.Source.failures _ _ c.loop-number.files c.loop-number.number _ _ within c.loop-number.invariant.counted c.in_err-bytes.ensures.counted)

pub loop-number-preserved : goal.loop-number-preserved
loop-number-preserved g c =
    let files = c.loop-number.files in
    let sources = c.args.files.now in
    let number = c.loop-number.number in
    let within : number < length files = omega (arith, c.loop-number-test.true, c.loop-number.auto.number-end, c.loop-number.auto.files) in
    let within_sources : number < length sources = omega (arith, within, c.loop-number.auto.files) in
    let same = next_same files sources number _ within within_sources c.loop-number.invariant.rest in
    let pushed : c.push.new.self.items ≡ c.loop-number.read.items ++ c.in_ok-bytes.bytes ∷ [] =
    c.push.ensures.items ∙ ap (λ b. if b then c.loop-number.read.items ++ c.in_ok-bytes.bytes ∷ [] else c.loop-number.read.items) c.if-is_err.ensures.negation in
    record {
      read = rw (pushed) (reads_next g.S.Source.remaining vec_items sources number _ c.loop-number.read.items c.in_ok-bytes.bytes within_sources
          c.loop-number.invariant.read (subst (λ source. Reads (g.S.Source.remaining source) c.in_ok-bytes.bytes.items) same.0 c.in_ok-bytes.ensures.read));
      rest = drop-set-lt (number + 1) files number _ (omega arith) ∙ same.1;
      counted = none_failed g.S.Source.failures _ files number _ _ within c.loop-number.invariant.counted c.in_ok-bytes.ensures.counted;
    }
