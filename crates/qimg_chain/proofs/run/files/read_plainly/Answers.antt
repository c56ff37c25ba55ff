use Rattle.std.proofs.Common.{◌≡◌, ◌∙◌, Err, List, ap, arith, inr, length, subst, sym, ℕ}
use Rattle.std.proofs.lemmas.Result.{err_from_is_err_and}
use Rattle.imago_storage.specs.View.{view_state}
use Rattle.qimg_chain.specs.PlainReads.{IsPlainlyRead, NotPlainlyRead}
use Rattle.qimg_chain.specs.RunAnswers.{ReadsPlainly}
use Rattle.qimg_chain.proofs.Failing.{unread, view_never}
use Rattle.qimg_chain.proofs.RunAnswerLemmas.{front_of}
use Rattle.qimg_chain.proofs.run.files.read_plainly.Goals as goal

pub returns : goal.returns
returns g c =
    let lent = c.in_ok-files.files.items in
    let long : length c.deref_mut.result.now ≡ c.args.count = ap (λ bytes. length bytes) c.deref_mut.ensures.value ∙ c.in_ok-buf.ensures.ok.1 in
    let whole : c.in_ok-buf.buf.len ≡ length c.plain_read.new.buf = omega (arith, c.plain_read.auto.buf, c.deref_mut.ensures.len, c.in_ok-buf.buf.ok.0) in
    let same : c.from.result ≡ c.plain_read.new.buf = c.from.ensures ∙ front_of c.in_ok-buf.buf.len c.plain_read.new.buf _ whole in (
      (c.in_ok-buf.ensures.ok.0, ap (λ bytes. length bytes) same ∙ c.plain_read.auto.buf ∙ long),
      (
        lent,
        c.in_ok-files.ensures.ok,
        subst (λ (bytes : List ℕ). IsPlainlyRead view_state lent c.args.offset c.args.count bytes) (sym same)
            (subst (λ (n : ℕ). IsPlainlyRead view_state lent c.args.offset n c.plain_read.new.buf) long c.in_ok-plain_read.ensures.ok),
      ),
    )

pub returns-in_err-plain_read : goal.returns-in_err-plain_read
returns-in_err-plain_read g c =
    let lent = c.in_ok-files.files.items in
    let fault = c.in_err-plain_read.field-0.0 in
    let long = ap (λ bytes. length bytes) c.deref_mut.ensures.value ∙ c.in_ok-buf.ensures.ok.1 in
    let p = err_from_is_err_and c.from_residual-in_err-plain_read.result c.from_residual-in_err-plain_read.ensures.1 in
    subst (λ r. ReadsPlainly g.D.DriverModel g.D.NamesFiles.names c.args.offset c.args.count r c.args.chain.now) (sym (p.1 ∙ ap (λ e. Err e) p.2)) (
      unread view_state view_never lent c.args.offset _ fault c.in_err-plain_read.ensures.err,
      inr (
        c.in_ok-buf.ensures.ok.0,
        inr (
          lent,
          c.in_ok-files.ensures.ok,
          subst (λ (n : ℕ). NotPlainlyRead view_state lent c.args.offset n fault) long c.in_err-plain_read.ensures.err,
        ),
      ),
    )
