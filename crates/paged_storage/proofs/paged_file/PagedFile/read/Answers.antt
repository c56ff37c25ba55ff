use Rattle.std.proofs.Common.{rules, ◌≡◌, ◌∙◌, sym, ◌+◌, ◌-◌, ◌≤◌, arith, length}
use Rattle.std.proofs.lemmas.List.{get_or_past}
use Rattle.imago_storage.proofs.Zeroes.{length_of_zeroes, zero_at}
use Rattle.paged_storage.specs.PagedFiles.{file_shown}
use Rattle.paged_storage.proofs.Agreed.{joined}
use Rattle.paged_storage.proofs.Shown.{length-shown}
use Rattle.paged_storage.proofs.paged_file.PagedFile.read.Goals as goal

pub returns-then-there-eq0 : goal.returns-then-there-eq0
returns-then-there-eq0 g c = λ k below.
    let file = c.args.self.now in
    let there = c.saturating_sub-there.result in
    let n = length c.args.buf.now - there in
    let long : length (file_shown g.H.HostFile file) ≡ file.size = length-shown file.size file.pages.entries (g.H.HostFile.state file.file).held in
    let past : file.size ≤ c.args.offset + k = omega (arith, c.if-there-eq0.true, c.saturating_sub-there.ensures, c.min-end.ensures, below, c.zero_in.auto.bytes) in
    c.zero_in.ensures.inside k (omega (arith, c.if-there-eq0.true)) (omega (arith, length_of_zeroes n, below, c.zero_in.auto.bytes))
    ∙ zero_at n (k - there) ∙ sym (get_or_past (file_shown g.H.HostFile file) (c.args.offset + k) 0 (omega (arith, past, long)))

pub returns : goal.returns
returns g c =
    let file = c.args.self.now in
    let there = c.saturating_sub-there.result in
    let n = length c.args.buf.now - there in
    let long : length (file_shown g.H.HostFile file) ≡ file.size = length-shown file.size file.pages.entries (g.H.HostFile.state file.file).held in
    joined (file_shown g.H.HostFile file) c.read_there.new.buf c.zero_in.new.bytes c.args.offset there c.in_ok-read_there.ensures
    (search rules) (search rules)
    (λ k past below. c.zero_in.ensures.inside k past (omega (arith, length_of_zeroes n, below, c.zero_in.auto.bytes)) ∙ zero_at n (k - there))
    (λ less. omega (arith, long, c.saturating_sub-there.ensures, c.min-end.ensures, less, c.zero_in.auto.bytes))
