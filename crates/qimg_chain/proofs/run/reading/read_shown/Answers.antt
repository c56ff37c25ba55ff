use Rattle.std.proofs.Common.{arith, subst, take, length-take-le}
use Rattle.std.specs.Io.BufRead.{FillKeeps}
use Rattle.std.proofs.BufReadLemmas.{Consumes_shown}
use Rattle.qimg_chain.proofs.PartsRead.{through-read}
use Rattle.qimg_chain.proofs.run.reading.read_shown.Goals as goal

pub returns-clause-ok : goal.returns-clause-ok
returns-clause-ok g c =
    let rested = c.fill_buf.follows.lender-at-none in
    let filled = subst (FillKeeps _ (g.R.Read.remaining rested) (g.R.BufRead.consumable_len rested)) c.in-Ok.is c.fill_buf.follows.holds-at-none in
    let count = c.line_part-count in
    let moved = Consumes_shown (g.R.Read.remaining c.args.input.now) (g.R.Read.remaining rested) (g.R.Read.remaining c.consume.new.self) _ c.in-Ok.shown.now count.result.0 count.ensures.inside c.in-Ok.ensures.front c.in-Ok.ensures.end filled.0 filled.1 c.consume.ensures.bytes in
    let line = through-read (g.R.Read.remaining c.args.input.now) (g.R.Read.remaining c.consume.new.self) c.in-Ok.shown.now count.result.0 count.ensures.inside moved (count.ensures.crash_images c.if-not-ended.false) (count.ensures.ends c.if-not-ended.false) count.ensures.none in
    record {
      bytes = take count.result.0 c.in-Ok.shown.now;
      are = line.0;
      drops = line.1;
      fits = omega (arith, length-take-le count.result.0 c.in-Ok.shown.now count.ensures.inside, c.if-count-room.false);
      next = c.next_in-next.ensures;
    }
