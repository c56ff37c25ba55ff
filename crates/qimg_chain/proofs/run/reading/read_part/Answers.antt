use Rattle.std.proofs.Common.{subst, take}
use Rattle.std.specs.Io.BufRead.{FillKeeps}
use Rattle.std.proofs.BufReadLemmas.{Consumes_shown}
use Rattle.qimg_chain.proofs.PartsRead.{through-read}
use Rattle.qimg_chain.proofs.run.reading.read_part.Goals as goal

pub returns-clause-ok : goal.returns-clause-ok
returns-clause-ok g c =
    let rested = c.fill_buf.follows.lender-at-none in
    let filled = subst (FillKeeps _ (g.R.Read.remaining rested) (g.R.BufRead.consumable_len rested)) c.in-Ok.is c.fill_buf.follows.holds-at-none in
    let count = c.line_part-count in
    let moved = Consumes_shown (g.R.Read.remaining c.args.input.now) (g.R.Read.remaining rested) (g.R.Read.remaining c.consume.new.self) _ c.in-Ok.shown.now count.result.0 count.ensures.inside c.in-Ok.ensures.front c.in-Ok.ensures.end filled.0 filled.1 c.consume.ensures.bytes in
    record {
      part = take count.result.0 c.in-Ok.shown.now;
      appended = c.in_ok-extend_from_slice.ensures.items;
      taken = moved.0;
      goes_on = count.ensures.goes_on;
      ends = λ is. through-read (g.R.Read.remaining c.args.input.now) (g.R.Read.remaining c.consume.new.self) c.in-Ok.shown.now count.result.0 count.ensures.inside moved (count.ensures.crash_images is) (count.ensures.ends is) count.ensures.none;
    }
