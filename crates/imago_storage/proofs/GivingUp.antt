-- The crash images of a discard.
use Rattle.std.proofs.Common.{◌≡◌, ⊎_elim, ℕ, ◌≤◌, List, length, arith, ap, sym, subst}
use Rattle.std.specs.Prelude.{Result, Ok, Err, OnOk, IfErr}
use Rattle.imago_storage.specs.State.{StorageState}
use Rattle.imago_storage.specs.Calls.{SameOutside, Discarded}
use Rattle.imago_storage.specs.Through.{EachCrashImage, CrashImagesNoShorter, GivenUp, NotGivenUp, whole_start, whole_size}
use Rattle.imago_storage.specs.declared.fault.Fault.{Fault}
use Rattle.imago_storage.specs.declared.fault.Fault.TheVariants.{RangeOverflow}
use Rattle.imago_storage.proofs.Composing.{tells_on, keeps_on, no_stops, one_stop, long_stop}

module _ (old new : StorageState) (at n : ℕ) where
  abbrev Outside : List ℕ → Type 0
  Outside = SameOutside old.bytes (whole_start old at) (whole_size old at n)

  -- Nothing has changed.
  same-stops : new ≡ old → EachCrashImage Outside old new
  same-stops same = no_stops Outside old new (ap (λ (s : StorageState). s.crash_image) same) (ap (λ (s : StorageState). s.past_crash_images) same)

  -- One request has discarded the whole units.
  one-discard : Discarded old new (whole_start old at) (whole_size old at n) → EachCrashImage Outside old new
  one-discard discarded = one_stop Outside old new discarded.changed.mark
      (λ in_step tells keeps. subst Outside (sym (discarded.changed.crash_image_is_bytes in_step (tells_on old new discarded.changed.shape tells) (keeps_on old new discarded.changed.shape keeps))) (discarded.content keeps))

  given-stops : GivenUp old new at n → EachCrashImage Outside old new
  given-stops given = ⊎_elim (λ same. same-stops same) (λ done. one-discard done.1) given

  refused-stops : (fault : Fault) → NotGivenUp old new at n fault → EachCrashImage Outside old new
  refused-stops RangeOverflow refused = same-stops refused.1
  refused-stops fault refused = no_stops Outside old new refused.1.refused.crash_image refused.1.refused.past_crash_images

  -- The length is unchanged.
  same-long : new ≡ old → CrashImagesNoShorter old new
  same-long same = no_stops (λ f. length old.bytes ≤ length f) old new (ap (λ (s : StorageState). s.crash_image) same) (ap (λ (s : StorageState). s.past_crash_images) same)

  given-long : GivenUp old new at n → CrashImagesNoShorter old new
  given-long given = ⊎_elim (λ same. same-long same) (λ done. long_stop old new done.1.changed.mark done.1.changed.shape done.1.changed.crash_image_is_bytes (omega (arith, done.1.size))) given

  refused-long : (fault : Fault) → NotGivenUp old new at n fault → CrashImagesNoShorter old new
  refused-long RangeOverflow refused = same-long refused.1
  refused-long fault refused = no_stops (λ f. length old.bytes ≤ length f) old new refused.1.refused.crash_image refused.1.refused.past_crash_images

  pub discard-long : {T : Type 0} (result : Result T Fault) → OnOk result (GivenUp old new at n) → IfErr result (NotGivenUp old new at n) → CrashImagesNoShorter old new
  discard-long (Ok x) ok err = given-long ok
  discard-long (Err fault) ok err = refused-long fault err

  -- In every case, a crash image is unchanged outside the whole units.
  pub discard-stops : {T : Type 0} (result : Result T Fault) → OnOk result (GivenUp old new at n) → IfErr result (NotGivenUp old new at n) → EachCrashImage Outside old new
  discard-stops (Ok x) ok err = given-stops ok
  discard-stops (Err fault) ok err = refused-stops fault err
