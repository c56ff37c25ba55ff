-- Consecutive reads of the files of layers, and why each is also a lookup call.
use Rattle.std.proofs.Common.{◌≡◌, refl, ℕ, zero, suc, ◌+◌, ◌-◌, ◌<◌, ◌≤◌, ◌^◌, List, [], ◌∷◌, ◌++◌, length, arith, ap, subst, sym, ◌∙◌, inl, inr}
use Rattle.std.specs.Prelude.{⊤, IsTrue}
use Rattle.std.proofs.lemmas.Nat.{div-add-mod'}
use Rattle.imago_storage.specs.State.{StorageState, IsAlignment, unit_of}
use Rattle.imago_storage.specs.Calls.{IsFaultless, UnchangedButFaults}
use Rattle.imago_storage.specs.Through.{NotRead, Overflows, round_up}
use Rattle.imago_storage.specs.declared.fault.Fault.{Fault}
use Rattle.imago_storage.specs.declared.fault.Fault.TheVariants.{RangeOverflow, Memory, Storage}
use Rattle.imago_access.specs.declared.driver_model.DriverModel.{Ghosts}
use Rattle.imago_access.specs.Layer.{Layer}
use Rattle.imago_access.specs.Refusals.{IsOfStorages}
use Rattle.imago_access.specs.Files.{Pairs, UnchangedButMoreFaults, IsLater, IsStorageAt, OverflowsIn, files, greatest}
use Rattle.imago_access.specs.FileReads.{file_bytes_in, files_at, FilesRead, FileReadCause}
use Rattle.imago_access.specs.Going.{LookupCall}
use Rattle.imago_access.specs.Stops.{Left, GivesNone}
use Rattle.imago_access.proofs.FilePairs.{pairs_append, kept_all_same, kept_all_both, faultless_all_same, faultless_all_both, later_all_same, some_rose_left, some_rose_right}
use Rattle.imago_access.proofs.Room.{room_same, takes_both}
use Rattle.imago_access.proofs.Stopping.{passes_none}

pub kept_later : (xs ys : List StorageState) → Pairs UnchangedButMoreFaults xs ys → Pairs IsLater xs ys
kept_later [] [] kept = tt
kept_later [] (y ∷ ys) kept = absurd kept
kept_later (x ∷ xs) [] kept = absurd kept
kept_later (x ∷ xs) (y ∷ ys) kept =
    ((kept.0.0.shape, record { faults = kept.0.1; refusals = omega (arith, kept.0.0.refusals) }), kept_later xs ys kept.1)

pub kept_bytes : (xs ys : List StorageState) (number : ℕ) → Pairs UnchangedButMoreFaults xs ys → file_bytes_in ys number ≡ file_bytes_in xs number
kept_bytes [] [] number kept = refl
kept_bytes [] (y ∷ ys) number kept = absurd kept
kept_bytes (x ∷ xs) [] number kept = absurd kept
kept_bytes (x ∷ xs) (y ∷ ys) zero kept = kept.0.0.bytes
kept_bytes (x ∷ xs) (y ∷ ys) (suc number) kept = kept_bytes xs ys number kept.1

pub bytes_there : (ss : List StorageState) (index : ℕ) (s : StorageState) → IsStorageAt ss index s → file_bytes_in ss index ≡ s.bytes
bytes_there [] index s is = absurd is
bytes_there (t ∷ ts) zero s is = ap (λ (u : StorageState). u.bytes) (sym is)
bytes_there (t ∷ ts) (suc index) s is = bytes_there ts index s is

pub bytes_beyond : (ss : List StorageState) (index : ℕ) → length ss ≤ index → file_bytes_in ss index ≡ []
bytes_beyond [] index past = refl
bytes_beyond (t ∷ ts) zero past = absurd (omega (arith, past))
bytes_beyond (t ∷ ts) (suc index) past = bytes_beyond ts index (omega (arith, past))

module _ {D St : Type 0} (g : Ghosts D St) where
  pub read_same : (whole : Type 0) (d : D) → FilesRead g whole d d
  read_same whole d = record {
    layer = refl;
    unchanged_but_faults = kept_all_same (files g d);
    faults = λ w. faultless_all_same (files g d);
    seen = λ s. s;
    safely = λ s. s;
    stilled = λ s. s;
    stays_stable = λ l. l;
    excess_refcount = λ s c. refl;
    room = λ s. room_same g (λ _. ⊤) (λ _. ⊤) d;
    stays_begun = λ x call b. b;
  }

  pub read_both : (whole : Type 0) (a b c : D) → FilesRead g ⊤ a b → FilesRead g whole b c → FilesRead g whole a c
  read_both whole a b c first second = record {
    layer = second.layer ∙ first.layer;
    unchanged_but_faults = kept_all_both (files g a) (files g b) (files g c) first.unchanged_but_faults second.unchanged_but_faults;
    faults = λ w. faultless_all_both (files g a) (files g b) (files g c) (first.faults tt) (second.faults w);
    seen = λ s. second.seen (first.seen s);
    safely = λ s. second.safely (first.safely s);
    stilled = λ s. second.stilled (first.stilled s);
    stays_stable = λ l. second.stays_stable (first.stays_stable l);
    excess_refcount = λ s n. second.excess_refcount (first.safely s) n ∙ first.excess_refcount s n;
    room = λ s. takes_both g (λ _. ⊤) (λ _. ⊤) (λ _. ⊤) a b c (λ p there. (tt, tt)) (first.room s) (second.room (first.safely s));
    stays_begun = λ x call begun. second.stays_begun x call (first.stays_begun x call begun);
  }

  pub read_looked : (whole : Type 0) (a b : D) → FilesRead g whole a b → LookupCall g whole a b
  read_looked whole a b r = record {
    keeps_layer_state = record {
      fixed = ap (λ (l : Layer). l.fixed) r.layer;
      size = ap (λ (l : Layer). l.size) r.layer;
      unspent = ap (λ (l : Layer). l.unspent) r.layer;
      failed = λ f. subst (λ (l : Layer). IsTrue l.failed) (sym r.layer) f;
    };
    counts_not_fallen = kept_later (files g a) (files g b) r.unchanged_but_faults;
    faults = r.faults;
    stays = λ w see. (r.layer, r.seen see);
    safely = λ w s. r.safely s;
    cut = inr (record { seen = λ see. (r.layer, r.seen see); safely = r.safely });
    stays_stable = r.stays_stable;
    excess_refcount = λ w. r.excess_refcount;
    unchanged_but_faults = λ s. (r.unchanged_but_faults, r.stilled s);
    crash_images = λ s below. let k = r.unchanged_but_faults.0.0 in
        passes_none (Left below (g.layer a) (g.image a).bytes g.sound (g.layer a).size (g.layer a).size GivesNone) (g.image a) (g.image b) k.shape (k.crash_image, k.past_crash_images, k.bytes, k.refusals);
  }

  -- Reads of the files of each layer of a chain.
  pub all_read_same : (whole : Type 0) (ds : List D) → Pairs (FilesRead g whole) ds ds
  all_read_same whole [] = tt
  all_read_same whole (d ∷ ds) = (read_same whole d, all_read_same whole ds)

  pub all_read_both : (whole : Type 0) (xs ys zs : List D) → Pairs (FilesRead g ⊤) xs ys → Pairs (FilesRead g whole) ys zs → Pairs (FilesRead g whole) xs zs
  all_read_both whole [] [] [] first second = tt
  all_read_both whole (x ∷ xs) (y ∷ ys) (z ∷ zs) first second = (read_both whole x y z first.0 second.0, all_read_both whole xs ys zs first.1 second.1)
  all_read_both whole [] (y ∷ ys) zs first second = absurd first
  all_read_both whole [] [] (z ∷ zs) first second = absurd second
  all_read_both whole (x ∷ xs) [] zs first second = absurd first
  all_read_both whole (x ∷ xs) (y ∷ ys) [] first second = absurd second

  pub all_read_looked : (whole : Type 0) (xs ys : List D) → Pairs (FilesRead g whole) xs ys → Pairs (LookupCall g whole) xs ys
  all_read_looked whole [] [] h = tt
  all_read_looked whole (x ∷ xs) (y ∷ ys) h = (read_looked whole x y h.0, all_read_looked whole xs ys h.1)
  all_read_looked whole [] (y ∷ ys) h = absurd h
  all_read_looked whole (x ∷ xs) [] h = absurd h

  pub bytes_at_kept : (whole : Type 0) (xs ys : List D) (layer file : ℕ) → Pairs (FilesRead g whole) xs ys → file_bytes_in (files_at g ys layer) file ≡ file_bytes_in (files_at g xs layer) file
  bytes_at_kept whole [] [] layer file h = refl
  bytes_at_kept whole (x ∷ xs) (y ∷ ys) zero file h = kept_bytes (files g x) (files g y) file h.0.unchanged_but_faults
  bytes_at_kept whole (x ∷ xs) (y ∷ ys) (suc layer) file h = bytes_at_kept whole xs ys layer file h.1
  bytes_at_kept whole [] (y ∷ ys) layer file h = absurd h
  bytes_at_kept whole (x ∷ xs) [] layer file h = absurd h

-- An error of a read of one layer's files is an error of the chain's read.
pub cause_left : (overflows : Type 0) (olds news us : List StorageState) (e : Fault)
    → FileReadCause overflows olds news e → FileReadCause overflows (olds ++ us) (news ++ us) e
cause_left overflows olds news us RangeOverflow why = why
cause_left overflows olds news us Memory why = pairs_append IsFaultless olds news us us why (faultless_all_same us)
cause_left overflows olds news us Storage why = some_rose_left olds news us us why
cause_left overflows olds news us e why = absurd why

pub cause_right : (overflows : Type 0) (ss us vs : List StorageState) (e : Fault)
    → FileReadCause overflows us vs e → FileReadCause overflows (ss ++ us) (ss ++ vs) e
cause_right overflows ss us vs RangeOverflow why = why
cause_right overflows ss us vs Memory why = pairs_append IsFaultless ss ss us vs (faultless_all_same ss) why
cause_right overflows ss us vs Storage why = some_rose_right ss ss us vs (later_all_same ss) why
cause_right overflows ss us vs e why = absurd why

pub cause_more : (less more : Type 0) (olds news : List StorageState) (e : Fault) → (less → more) → FileReadCause less olds news e → FileReadCause more olds news e
cause_more less more olds news RangeOverflow over why = over why
cause_more less more olds news Memory over why = why
cause_more less more olds news Storage over why = why
cause_more less more olds news e over why = absurd why

-- An error of a read of the first storage is an error of a read of all storages.
pub cause_of_first : (s t : StorageState) (ss : List StorageState) (offset n : ℕ) (e : Fault) → UnchangedButFaults s t → NotRead s t offset n e
    → FileReadCause (Overflows (unit_of s.shape) offset n) (s ∷ ss) (t ∷ ss) e
cause_of_first s t ss offset n RangeOverflow kept why = why.0
cause_of_first s t ss offset n Memory kept why = ((why, kept.refusals), faultless_all_same ss)
cause_of_first s t ss offset n Storage kept why = inl why
cause_of_first s t ss offset n e kept why = absurd why

-- ---- Overflow of a range.

-- A range that starts at 0 and ends at most at 2^63 doesn't overflow.
from_start : (unit n : ℕ) → unit ≤ 2 ^ 20 → n ≤ 2 ^ 63 → Overflows unit 0 n → ⊥
unfolding round_up
from_start unit n small low over = let end = 0 + n + (unit - 1) in omega (arith, div-add-mod' end unit, small, low, over.1)

from_start_in : (s : StorageState) (ss : List StorageState) (file n : ℕ) → greatest (λ t. t.shape.req_align) s ss ≤ 2 ^ 20
    → greatest (λ t. t.shape.mem_align) s ss ≤ 2 ^ 20 → n ≤ 2 ^ 63 → OverflowsIn (s ∷ ss) file 0 n → ⊥
from_start_in s [] zero n requests memory low over = from_start (unit_of s.shape) n (omega (arith, requests, memory)) low over
from_start_in s [] (suc file) n requests memory low over = over
from_start_in s (t ∷ ts) zero n requests memory low over = from_start (unit_of s.shape) n (omega (arith, requests, memory)) low over
from_start_in s (t ∷ ts) (suc file) n requests memory low over = from_start_in t ts file n (omega (arith, requests)) (omega (arith, memory)) low over

-- The same for the files of a chain.
module _ {D St : Type 0} (g : Ghosts D St) (aligned : (d : D) → IsAlignment (g.layer d).fixed.req_align × IsAlignment (g.layer d).fixed.mem_align) (storages : (d : D) → IsOfStorages (g.layer d) (g.image d) (g.extras d)) where
  pub fits_at : (ds : List D) (layer file n : ℕ) → n ≤ 2 ^ 63 → OverflowsIn (files_at g ds layer) file 0 n → ⊥
  fits_at [] layer file n low over = over
  fits_at (d ∷ ds) zero file n low over = from_start_in (g.image d) (g.extras d) file n
      (omega (arith, (storages d).requests, (aligned d).0.small)) (omega (arith, (storages d).memory, (aligned d).1.small)) low over
  fits_at (d ∷ ds) (suc layer) file n low over = fits_at ds layer file n low over

-- The files of the top layer and of the layers below, by number.
module _ {D St : Type 0} (g : Ghosts D St) (d : D) (ds : List D) where
  pub at_top : (layer : ℕ) → layer ≤ 0 → files_at g (d ∷ ds) layer ≡ files g d
  at_top zero top = refl
  at_top (suc layer) top = absurd (omega (arith, top))

  pub at_below : (layer : ℕ) → 0 < layer → files_at g (d ∷ ds) layer ≡ files_at g ds (layer - 1)
  at_below zero below = absurd (omega (arith, below))
  at_below (suc layer) below = let less : layer ≡ suc layer - 1 = omega arith in ap (files_at g ds) less

  pub further_at : (layer file : ℕ) → layer ≤ 0 → (file ≡ 0 → ⊥) → file_bytes_in (files_at g (d ∷ ds) layer) file ≡ file_bytes_in (g.extras d) (file - 1)
  further_at layer zero top further = absurd (further refl)
  further_at layer (suc file) top further =
      let less : file ≡ suc file - 1 = omega arith in ap (λ ss. file_bytes_in ss (suc file)) (at_top layer top) ∙ ap (file_bytes_in (g.extras d)) less
