use Rattle.std.proofs.Common.{arith, length, ap, ◌≡◌, ◌∙◌, ◌+◌}
use Rattle.std.proofs.lemmas.List.{length_push}
use Rattle.qimg_chain.proofs.ArgumentLemmas.{extras-more, extras-end}
use Rattle.qimg_chain.proofs.arguments.parse_extras.Goals as goal

pub files-preserved : goal.files-preserved
files-preserved c =
    let longer : length c.push.new.self.items ≡ length c.files.extras.items + 1 = ap length c.in_ok-push.ensures.items ∙ length_push c.files.extras.items _ in
    let count : c.len.result ≡ length c.files.extras.items = omega (arith, c.len.ensures, c.files.extras.ok) in
    record {
      inside = omega (arith, c.in-Some.ensures.within_words);
      taken = extras-more _ c.args.words.now c.args.at c.len.result c.files.extras.items c.push.new.self.items c.in_ok-name.name c.in_ok-path.path _ _ _ c.files.invariant.taken count c.in_ok-push.ensures.items c.in_ok-name.ensures.ok c.in_ok-path.ensures.ok c.in-Some.ensures.file;
    }

pub returns-clause-taken : goal.returns-clause-taken
returns-clause-taken c =
    let count : c.len.result ≡ length c.files.extras.items = omega (arith, c.len.ensures, c.files.extras.ok) in
    extras-end _ c.args.words.now c.args.at c.len.result _ _ _ count c.files.invariant.taken c.in_default.ensures.file
