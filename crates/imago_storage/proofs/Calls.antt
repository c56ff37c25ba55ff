-- The effect of a padded call, from that of one request.
use Rattle.std.proofs.Common.{◌≡◌, refl, inl, inr, ℕ, ◌+◌, ◌-◌, ◌%◌, ◌^◌, ◌<◌, ◌≤◌, max, List, length, arith, sym, ◌∙◌, ap, subst}
use Rattle.std.specs.Prelude.{IsTrue, Result, OnOk, IfErr, IsErrAnd}
use Rattle.std.proofs.lemmas.Result.{on_ok_weaker, IfErr-weaker, err_from_is_err_and}
use Rattle.imago_storage.specs.State.{StorageState, IsUnitRange, unit_of}
use Rattle.imago_storage.specs.Calls.{Spliced, OldOrNewBytes, Cause, UnchangedButFaults, Changed, Refused, Written, NotWritten}
use Rattle.imago_storage.specs.Through.{round_up, PaddedWriteFailed, PaddedWriteRefused, OneRequest, NoRequest, UnlessOverflow}
use Rattle.imago_storage.specs.declared.fault.Fault.{Fault}
use Rattle.imago_storage.specs.declared.fault.Fault.TheVariants.{Memory}
use Rattle.imago_storage.proofs.Rounding.{round_up_whole, le_round_up, sum_of_whole, start_whole, mod_self, round_up_unit}
use Rattle.imago_storage.proofs.Composing.{tells_on, keeps_on, no_stops, one_stop, long_stop, spliced-mixed, same-mixed}

-- `content` may describe the written bytes by another splice.
pub one_request : (unit : ℕ) (old new : StorageState) (at : ℕ) (bytes : List ℕ) → Changed old new → 0 < length bytes → (IsTrue old.shape.keeps → Spliced old.bytes at bytes new.bytes) → length new.bytes ≡ max (length old.bytes) (round_up unit (at + length bytes)) → OneRequest unit old new at bytes
one_request unit old new at bytes changed some content size = record {
  through = record {
    shape = changed.shape;
    faults = changed.faults;
    refusals = changed.refusals;
    nothing = λ none. absurd (omega arith);
    content = content;
    size = λ _. size;
    crash_image_is_bytes = changed.crash_image_is_bytes;
    crash_images = one_stop _ old new changed.mark (λ in_step tells keeps. subst (OldOrNewBytes old.bytes at bytes) (sym (changed.crash_image_is_bytes in_step (tells_on old new changed.shape tells) (keeps_on old new changed.shape keeps))) (spliced-mixed old.bytes at bytes new.bytes (content keeps)));
    as_long = long_stop old new changed.mark changed.shape changed.crash_image_is_bytes (omega (arith, size));
  };
  mark = λ _. changed.mark;
}

pub no_request : (unit : ℕ) (old new : StorageState) (at : ℕ) (bytes : List ℕ) (fault : Fault) → 0 < length bytes → Refused old new fault → (IsTrue old.shape.keeps → OldOrNewBytes old.bytes at bytes new.bytes) → length old.bytes ≤ length new.bytes → length new.bytes ≤ max (length old.bytes) (round_up unit (at + length bytes)) → NoRequest unit old new at bytes fault
no_request unit old new at bytes fault some refused content no_shorter no_longer = record {
  nonempty = some;
  halted = record {
    shape = refused.shape;
    cause = refused.cause;
    refusals = refused.refusals;
    content = content;
    no_shorter = no_shorter;
    no_longer = no_longer;
    crash_images = no_stops _ old new refused.crash_image refused.past_crash_images;
    as_long = no_stops _ old new refused.crash_image refused.past_crash_images;
  };
  crash_image = refused.crash_image;
  past_crash_images = refused.past_crash_images;
}

-- A failed request makes the padded call fail.
pub halted-not : (unit : ℕ) (old new : StorageState) (at : ℕ) (bytes : List ℕ) (fault : Fault) → PaddedWriteFailed unit old new at bytes fault → PaddedWriteRefused unit old new at bytes fault
halted-not unit old new at bytes fault halted = record {
  shape = halted.shape;
  cause = halted.cause;
  refused_or_unchanged = inl halted.refusals;
  content = halted.content;
  no_shorter = halted.no_shorter;
  no_longer = halted.no_longer;
  counts_not_fallen = halted.refusals.not_fallen;
  crash_image_is_bytes = inl halted.refusals;
  crash_images = halted.crash_images;
  as_long = halted.as_long;
}

-- The call failed before its first request.
pub kept-not : (unit : ℕ) (old new : StorageState) (at : ℕ) (bytes : List ℕ) (fault : Fault) → UnchangedButFaults old new → Cause old.faults new.faults fault → PaddedWriteRefused unit old new at bytes fault
kept-not unit old new at bytes fault kept cause = record {
  shape = kept.shape;
  cause = cause;
  refused_or_unchanged = inr kept;
  content = λ _. same-mixed old.bytes at bytes new.bytes kept.bytes;
  no_shorter = omega (arith, ap (length {A = ℕ}) kept.bytes);
  no_longer = omega (arith, ap (length {A = ℕ}) kept.bytes);
  counts_not_fallen = omega (arith, kept.refusals);
  crash_image_is_bytes = inr (λ in_step tells keeps. kept.crash_image ∙ in_step (tells_on new old (sym kept.shape) tells) (keeps_on new old (sym kept.shape) keeps) ∙ sym kept.bytes);
  crash_images = no_stops _ old new kept.crash_image kept.past_crash_images;
  as_long = no_stops _ old new kept.crash_image kept.past_crash_images;
}

pub none_written : (unit : ℕ) (s : StorageState) (at : ℕ) (bytes : List ℕ) → length bytes ≡ 0 → OneRequest unit s s at bytes
none_written unit s at bytes none = record {
  through = record {
    shape = refl;
    faults = refl;
    refusals = refl;
    nothing = λ _. refl;
    content = λ _. record { before = λ k lt. refl; inside = λ k from to. absurd (omega arith); after = λ k from. refl };
    size = λ some. absurd (omega arith);
    crash_image_is_bytes = λ same. same;
    crash_images = no_stops _ s s refl refl;
    as_long = no_stops _ s s refl refl;
  };
  mark = λ some. absurd (omega arith);
}

pub whole_written : (old new : StorageState) (at : ℕ) (bytes : List ℕ) → 0 < unit_of old.shape → 0 < length bytes → IsUnitRange (unit_of old.shape) at (length bytes) → Written old new at bytes → OneRequest (unit_of old.shape) old new at bytes
whole_written old new at bytes positive some whole written =
    let sum_whole : (at + length bytes) % unit_of old.shape ≡ 0 = sum_of_whole (unit_of old.shape) at (length bytes) positive whole.start whole.size in
    one_request (unit_of old.shape) old new at bytes written.changed some written.content (written.size ∙ ap (λ (n : ℕ). max (length old.bytes) n) (sym (round_up_whole _ _ positive sum_whole)))

pub whole_refused : (old new : StorageState) (at : ℕ) (bytes : List ℕ) (fault : Fault) → 0 < unit_of old.shape → 0 < length bytes → NotWritten old new at bytes fault → NoRequest (unit_of old.shape) old new at bytes fault
whole_refused old new at bytes fault positive some refused =
    no_request (unit_of old.shape) old new at bytes fault some refused.refused refused.content refused.no_shorter (omega (arith, refused.no_longer, le_round_up (unit_of old.shape) (at + length bytes) positive))

-- The unit that contains a range is a valid range of a request.
pub one_unit : (unit long at n : ℕ) → long ≡ unit → 0 < unit → 0 < n → at % unit + n ≤ unit → round_up unit (at + n) < 2 ^ 64 → IsUnitRange unit (at - at % unit) long
one_unit unit long at n is positive some inside fits = record {
  start = start_whole unit at positive;
  size = ap (λ (u : ℕ). u % unit) is ∙ mod_self unit positive;
  fits = omega (arith, fits, is, round_up_unit unit at n some inside);
}

module _ (old new : StorageState) (at : ℕ) (bytes : List ℕ) (positive : 0 < unit_of old.shape) (some : 0 < length bytes) (whole : IsUnitRange (unit_of old.shape) at (length bytes)) where
  pub whole_ok : {T : Type 0} (result : Result T Fault) → OnOk result (Written old new at bytes) → OnOk result (OneRequest (unit_of old.shape) old new at bytes)
  whole_ok result h = on_ok_weaker result (whole_written old new at bytes positive some whole) h

  pub whole_err : {T : Type 0} (result : Result T Fault) → IfErr result (NotWritten old new at bytes) → IfErr result (NoRequest (unit_of old.shape) old new at bytes)
  whole_err result h = IfErr-weaker result (NotWritten old new at bytes) (NoRequest (unit_of old.shape) old new at bytes) (λ fault refused. whole_refused old new at bytes fault positive some refused) h

-- Memory ran out before any request.
pub no_room : {T : Type 0} (unit : ℕ) (s : StorageState) (at : ℕ) (bytes : List ℕ) (P : Type 0) (result : Result T Fault) → IsErrAnd result (λ e. e ≡ Memory) → IfErr result (UnlessOverflow P s s (PaddedWriteRefused unit s s at bytes))
no_room unit s at bytes P result is_err =
    let p = err_from_is_err_and result is_err in
    let Q : Fault → Type 0 = UnlessOverflow P s s (PaddedWriteRefused unit s s at bytes) in
    let kept : UnchangedButFaults s s = record { shape = refl; bytes = refl; refusals = refl; crash_image = refl; past_crash_images = refl } in
    subst (λ r. IfErr r Q) (sym p.1) (subst Q (sym p.2) (kept-not unit s s at bytes Memory kept refl))
