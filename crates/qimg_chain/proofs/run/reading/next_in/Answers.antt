use Rattle.std.proofs.Common.{[], arith, ap, sym, ◌∙◌, ◌∷◌}
use Rattle.std.specs.Str.Lines.{lines}
use Rattle.qimg_chain.proofs.ScriptLines.{lone-line}
use Rattle.qimg_chain.proofs.run.reading.next_in.Goals as goal

pub returns : goal.returns
returns c =
    let line = c.args.line.now in
    record {
      text = c.without_return.result.now;
      remainder = [];
      first = lone-line line (grind (arith, c.if-is_empty.false, c.if-is_empty.ensures)) c.requires.crash_images c.requires.ends ∙ ap (λ text. text ∷ lines []) (sym c.without_return.ensures);
      taken = (c.parse_line.ensures.ok, c.parse_line.ensures.err);
    }
