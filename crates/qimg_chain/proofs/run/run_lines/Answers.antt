use Rattle.std.proofs.Common.{ap, refl, subst, arith}
use Rattle.std.specs.Io.Take.{take_remaining}
use Rattle.qimg_chain.specs.Saving.{files_to_save}
use Rattle.qimg_chain.specs.ScriptReads.{ReadsNext}
use Rattle.qimg_chain.specs.ScriptRuns.{ending, kept_of, standing}
use Rattle.qimg_chain.proofs.ScriptBytes.{cut-reading, cut-telling, read-all, read-more, read-none}
use Rattle.qimg_chain.proofs.ScriptRunLemmas.{all-written, handed-on, last-untold, made-then, ran-none, ran-then, scripted, scripted-cut}
use Rattle.qimg_chain.proofs.run.run_lines.Goals as goal

pub loop-init : goal.loop-init
loop-init g c =
    let m = g.met.D.FormatDriverInstance in
    let had = g.R.Read.remaining c.args.reader in
    let left = take_remaining g.R.Read.remaining c.take-input.result in (
      c.requires.free,
      ran-none g.D.DriverModel g.D.NamesFiles.names had left (g.W.Write.contents c.args.writer.now) c.args.chain.now
          (record { well_formed_is_coherent = m.well_formed_is_coherent; well_formed_is_sound = m.well_formed_is_sound; free = c.requires.free })
          (read-none had left (rw (c.take-input.ensures.limit, c.take-input.ensures.inner) refl)),
    )

pub loop-preserved : goal.loop-preserved
loop-preserved g c = (
  c.answer_to-answer.ensures.free,
  ran-then (take_remaining g.R.Read.remaining c.next_line.new.input) (g.W.Write.contents c.tell.new.writer) c.next_line.new.room
      (standing c.answer_to-answer.new.chain (kept_of (files_to_save g.D.DriverModel c.answer_to-answer.new.chain) c.answer_to-answer.new.saved))
      c.in-Some.taken c.answer_to-answer.result c.loop.invariant.1 (subst (ReadsNext _ _ _ _) c.in-Some.is c.in_ok-taken.ensures.ok) c.answer_to-answer.ensures.replied c.in_ok-tell.ensures.ok,
)

pub returns-in_err-taken-clause-scripted : goal.returns-in_err-taken-clause-scripted
returns-in_err-taken-clause-scripted g c =
    scripted-cut (g.W.Write.contents c.args.writer.now) (g.W.Write.contents c.loop.writer) (ending (kept_of (files_to_save g.D.DriverModel c.loop.chain)) c.from_residual.result) _ c.loop.invariant.1.made (cut-reading _ _ c.in_err-taken.ensures.err (omega arith))
    (ap (ending (kept_of (files_to_save g.D.DriverModel c.loop.chain))) (handed-on c.from_residual.result _ c.from_residual.ensures.1)) (all-written _ _ _ _ c.loop.invariant.1.written)

pub returns-in_err-next_line-clause-scripted : goal.returns-in_err-next_line-clause-scripted
returns-in_err-next_line-clause-scripted g c =
    scripted-cut (g.W.Write.contents c.args.writer.now) (g.W.Write.contents c.loop.writer) (ending (kept_of (files_to_save g.D.DriverModel c.loop.chain)) c.from_residual-in_err-next_line.result) _ c.loop.invariant.1.made (cut-reading _ _ c.in_err-next_line.ensures.err (omega arith))
    (ap (ending (kept_of (files_to_save g.D.DriverModel c.loop.chain))) (handed-on c.from_residual-in_err-next_line.result _ c.from_residual-in_err-next_line.ensures.1)) (all-written _ _ _ _ c.loop.invariant.1.written)

pub returns-in_default-clause-scripted : goal.returns-in_default-clause-scripted
returns-in_default-clause-scripted g c = scripted c.loop.invariant.1 (omega arith)
    (λ texts read. read-all (g.R.Read.remaining c.args.reader) (take_remaining g.R.Read.remaining c.loop.input) (take_remaining g.R.Read.remaining c.next_line.new.input) c.loop.room c.next_line.new.room texts
    (kept_of (files_to_save g.D.DriverModel c.loop.chain) c.loop.saved) read (subst (ReadsNext _ _ _ _) c.in_default.is c.in_ok-taken.ensures.ok)) refl

pub returns-in_err-tell-clause-scripted : goal.returns-in_err-tell-clause-scripted
unfolding made-then
returns-in_err-tell-clause-scripted g c =
    let kept = kept_of (files_to_save g.D.DriverModel c.answer_to-answer.new.chain) in
    let result = ending kept c.from_residual-in_err-tell.result in
    let failed = ap (ending kept) (handed-on c.from_residual-in_err-tell.result c.in_err-tell.field-0.0 c.from_residual-in_err-tell.ensures.1) in
    scripted-cut (g.W.Write.contents c.args.writer.now) (g.W.Write.contents c.tell.new.writer) result c.in_err-tell.field-0.0
    (made-then (take_remaining g.R.Read.remaining c.next_line.new.input) c.next_line.new.room (standing c.answer_to-answer.new.chain (kept_of (files_to_save g.D.DriverModel c.answer_to-answer.new.chain) c.answer_to-answer.new.saved))
    c.in-Some.taken c.answer_to-answer.result c.loop.invariant.1.made (subst (ReadsNext _ _ _ _) c.in-Some.is c.in_ok-taken.ensures.ok) c.answer_to-answer.ensures.replied)
    (cut-telling c.in_err-tell.field-0.0 _ c.in_err-tell.ensures.err (omega arith) (omega arith)) failed
    (last-untold result c.in_err-tell.field-0.0 _ (g.W.Write.contents c.loop.writer) _ _ _ c.in_err-tell.ensures.err failed c.in_err-tell.ensures.guest_unchanged c.loop.invariant.1.written)

pub returns-in-Some-2-clause-scripted : goal.returns-in-Some-2-clause-scripted
returns-in-Some-2-clause-scripted g c = scripted c.loop.invariant.1 (omega arith)
    (λ texts read. read-more (g.R.Read.remaining c.args.reader) (take_remaining g.R.Read.remaining c.loop.input) (take_remaining g.R.Read.remaining c.next_line-2.new.input) c.loop.room c.next_line-2.new.room texts
    _ read (subst (ReadsNext _ _ _ _) c.in-Some-2.is c.in_ok-next_line.ensures.ok)) tt

pub returns-clause-scripted : goal.returns-clause-scripted
returns-clause-scripted g c = scripted c.loop.invariant.1 (omega arith)
    (λ texts read. read-all (g.R.Read.remaining c.args.reader) (take_remaining g.R.Read.remaining c.loop.input) (take_remaining g.R.Read.remaining c.next_line-2.new.input) c.loop.room c.next_line-2.new.room texts
    (kept_of (files_to_save g.D.DriverModel c.loop.chain) c.loop.saved) read (subst (ReadsNext _ _ _ _) c.in-None.is c.in_ok-next_line.ensures.ok)) refl
