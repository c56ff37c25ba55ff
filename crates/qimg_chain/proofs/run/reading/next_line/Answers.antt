use Rattle.std.proofs.Common.{◌≡◌, arith, subst}
use Rattle.std.specs.Io.BufRead.{drop_through, take_through}
use Rattle.std.specs.Prelude.{Some}
use Rattle.qimg_chain.specs.ScriptReads.{IsNext, ReadsShown}
use Rattle.qimg_chain.proofs.PartsRead.{kept-known}
use Rattle.qimg_chain.proofs.run.reading.next_line.Goals as goal

pub returns-clause-ok : goal.returns-clause-ok
returns-clause-ok g c =
    let left = g.R.Read.remaining c.args.input.now in
    let shown = g.R.Read.remaining c.read_shown.new.input in
    let line = c.read_line.new.line.items in
    let kept = subst (ReadsShown left shown c.args.room.now c.read_shown.new.room) c.in_default.is c.in_ok-next.ensures.ok in
    record {
      bytes = line;
      are = kept-known left shown (λ all. line ≡ take_through 10 all) kept.0 c.in_ok-read_line.ensures.line;
      drops = kept-known left shown (λ all. g.R.Read.remaining c.read_line.new.input ≡ Some (drop_through 10 all)) kept.0 c.in_ok-read_line.ensures.remainder;
      fits = omega (arith, kept.1, c.if-len-room.false, c.len.ensures, c.len-2.ensures);
      next = subst (λ bytes. IsNext bytes c.next_of.result) c.deref.ensures.value c.next_of.ensures;
    }
