-- A write that fails before it makes a request.
use Rattle.std.proofs.Common.{refl, ℕ, List, [], arith, inl, inr}
use Rattle.std.specs.Prelude.{Err}
use Rattle.imago_storage.specs.State.{StorageState}
use Rattle.imago_storage.specs.Calls.{OldOrNewBytes}
use Rattle.imago_storage.specs.Through.{EachCrashImage, WriteOutcome, AtomicWriteOutcome}
use Rattle.imago_storage.specs.declared.fault.Fault.TheVariants.{Memory}

nothing_mixed : (old : List ℕ) (at : ℕ) (bytes : List ℕ) → OldOrNewBytes old at bytes old
nothing_mixed old at bytes = record { before = λ k lt. refl; inside = λ k ge lt. inl refl; after = λ k ge. refl }

no_stops : (s : StorageState) (at : ℕ) (bytes : List ℕ) → EachCrashImage (OldOrNewBytes s.bytes at bytes) s s
no_stops s at bytes step tells keeps = record { files = []; told = refl; each = λ k d lt. absurd (omega (arith, lt)) }

-- Memory ran out.
pub put_nothing : {T : Type 0} (s : StorageState) (at : ℕ) (bytes : List ℕ) → WriteOutcome {T = T} s s at bytes (Err Memory)
put_nothing s at bytes = record {
  answer = record {
    shape = refl;
    cause = refl;
    refused_or_unchanged = inr (record { shape = refl; bytes = refl; refusals = refl; crash_image = refl; past_crash_images = refl });
    content = λ keeps. nothing_mixed s.bytes at bytes;
    no_shorter = omega arith;
    no_longer = omega arith;
    counts_not_fallen = omega arith;
    crash_image_is_bytes = inr (λ step. step);
    crash_images = no_stops s at bytes;
    as_long = λ step tells keeps. record { files = []; told = refl; each = λ k d lt. absurd (omega (arith, lt)) };
  };
  crash_images = no_stops s at bytes;
  shape = refl;
  counts_not_fallen = record { faults = omega arith; refusals = omega arith };
}

pub put_nothing_at_once : {T : Type 0} (s : StorageState) (at : ℕ) (bytes : List ℕ) → AtomicWriteOutcome {T = T} s s at bytes (Err Memory)
put_nothing_at_once s at bytes = record { put = put_nothing s at bytes; single_request = (refl, refl) }
