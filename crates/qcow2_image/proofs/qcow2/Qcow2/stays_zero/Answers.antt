use Rattle.std.proofs.Common.{◌∙◌, ap, false, refl, sym, Bool, Some, Ok, Err}
use Rattle.qcow2_alloc.proofs.Faults.{handed-on}
use Rattle.qcow2_image.specs.declared.allocating.Shown.{Shown}
use Rattle.qcow2_image.proofs.Preparations.ContentCopies.{why-looked}
use Rattle.qcow2_image.proofs.Resizes.TailReads.{shown-zeroes}
use Rattle.qcow2_image.proofs.Steps.{keeps-as, keeps-same}
use Rattle.qcow2_image.proofs.qcow2.Qcow2.stays_zero.Goals as goal

pub returns-in_err-shown-in-Zero : goal.returns-in_err-shown-in-Zero
returns-in_err-shown-in-Zero g c = rw (handed-on _ _ c.from_residual.ensures.1) (
    let st = g.S.Storage in
    let old = c.args.self.now in
    let new = c.shown_at.new.self in
    let e = c.in_err-shown-in-Zero.field-0.0 in
    let told = c.in_err-shown-in-Zero.ensures in
    record {
      keeps = keeps-as {T = Shown} {U = Bool} st old new (Err e) (Err e) (λ w. w) (λ f. refl) told.keeps;
      zero = λ well_formed. tt;
      cause = why-looked st (λ number. ⊥) old new c.args.guest e told.known_cause told.cause;
    })

pub returns-in_ok-shown-in-Zero : goal.returns-in_ok-shown-in-Zero
returns-in_ok-shown-in-Zero g c =
    let st = g.S.Storage in
    let old = c.args.self.now in
    let new = c.shown_at.new.self in
    let shown = c.in_ok-shown-in-Zero.shown in
    let told = c.in_ok-shown-in-Zero.ensures in
    record {
      keeps = keeps-as {T = Shown} {U = Bool} st old new (Ok shown) (Ok c.is_zeroes.result) (λ w. tt) (λ f. refl) told.keeps;
      zero = λ well_formed stays.
          sym (told.shown well_formed.seen) ∙ ap Some (shown-zeroes shown (sym c.is_zeroes.ensures ∙ stays));
      cause = tt;
    }

pub returns-in-Data : goal.returns-in-Data
returns-in-Data g c =
    let d = c.args.self.now in
    record {
      keeps = keeps-as {T = Unit} {U = Bool} g.S.Storage d d (Ok tt) (Ok false) (λ w. tt) (λ f. refl) (keeps-same g.S.Storage d);
      zero = λ well_formed stays. absurd (cc stays);
      cause = tt;
    }
