-- Calls one after another, and calls that preserve the guest as calls of a kind.
use Rattle.std.proofs.Common.{◌≡◌, ℕ, ◌+◌, ◌<◌, arith, refl, ◌∙◌, List, Option, inl, inr}
use Rattle.std.specs.Prelude.{IsTrue}
use Rattle.imago_storage.specs.State.{StorageState, HasRisen}
use Rattle.imago_storage.specs.Calls.{CountsNotFallen}
use Rattle.imago_storage.specs.Disk.{Value}
use Rattle.imago_storage.specs.Passing.{UnrefusedCrashImages}
use Rattle.imago_storage.proofs.Composing.{keeps_on, later_both, later_same, no_stops, rose_before, rose_behind, stops_both, stops_weaker}
use Rattle.qcow2_types.specs.Bytes.{bytes_of}
use Rattle.qcow2_types.specs.Header.{Header}
use Rattle.qcow2_alloc.specs.GuestView.{Metadata, IsSound, IsUsed, PreservesGuest, referenced}
use Rattle.qcow2_steps.specs.Advancing.{Advances, MayBeCrashImage}
use Rattle.qcow2_steps.proofs.StepSums.{advances-then, advances-weaker, left-then, left-weaker}
use Rattle.qcow2_steps.proofs.QuietValues.{quiet-left}
use Rattle.qcow2_steps.proofs.Steps.{quiet-advances}
use Rattle.qcow2_clusters.specs.Progress.{Kind, Progresses, both, handing}

-- The image advances by a call of this kind.
abbrev pub AdvancesBy : Kind → Metadata → Metadata → Type 0
AdvancesBy kind m m' = Advances kind.gives kind.written kind.set kind.excess_added kind.taken m m'

-- The bytes may be a crash image of such a call.
abbrev pub LeftBy : Kind → Metadata → List ℕ → Type 0
LeftBy kind m x = (H : Header) × MayBeCrashImage kind.gives m (bytes_of x) H

-- `wider` allows all values, writes and settings that `kind` allows.
pub record IsWider (kind wider : Kind) : Type 0 where
  pub gives : (p : ℕ) (v : Option Value) → kind.gives p v → wider.gives p v
  pub written : (q : ℕ) → kind.written q → wider.written q
  pub set : (guest : ℕ) → kind.set guest → wider.set guest

pub wider-same : (kind : Kind) → IsWider kind kind
wider-same kind = record { gives = λ p v given. given; written = λ q here. here; set = λ guest here. here }

pub wider-first : (one two : Kind) → IsWider one (both one two)
wider-first one two = record { gives = λ p v given. inl given; written = λ q here. inl here; set = λ guest here. inl here }

pub wider-second : (one two : Kind) → IsWider two (both one two)
wider-second one two = record { gives = λ p v given. inr given; written = λ q here. inr here; set = λ guest here. inr here }

-- If a kind is wider than each of two kinds, it allows what both allow.
pub wider-both : (one two wider : Kind) → IsWider one wider → IsWider two wider → IsWider (both one two) wider
wider-both one two wider first second = record {
  gives = λ p v given. elim given [ inl a ↦ first.gives p v a | inr b ↦ second.gives p v b ];
  written = λ q here. elim here [ inl a ↦ first.written q a | inr b ↦ second.written q b ];
  set = λ guest here. elim here [ inl a ↦ first.set guest a | inr b ↦ second.set guest b ];
}

-- A call that only allocates and takes allows nothing else.
pub wider-handing : (handed taken : ℕ → ℕ) (wider : Kind) → IsWider (handing handed taken) wider
wider-handing handed taken wider = record { gives = λ p v none. absurd none; written = λ q none. absurd none; set = λ guest none. absurd none }

-- A crash image of a kind is one of each wider kind.
wider-passes : (kind wider : Kind) (s : StorageState) (m : Metadata) (s' : StorageState)
    → ((p : ℕ) (v : Option Value) → kind.gives p v → wider.gives p v) → (IsTrue s.shape.keeps → IsSound m → UnrefusedCrashImages (LeftBy kind m) s s')
    → IsTrue s.shape.keeps → IsSound m → UnrefusedCrashImages (LeftBy wider m) s s'
wider-passes kind wider s m s' more passes keeps sound no_change_refused =
    let told = passes keeps sound no_change_refused in
    (told.0, stops_weaker (LeftBy kind m) (LeftBy wider m) s s' (λ _ x left. (left.0, left-weaker kind.gives wider.gives more m (bytes_of x) left.0 left.1)) told.1)

-- A call that preserves the guest and takes nothing that is referenced progresses by a kind without new values.
pub quiet-progresses : (ok : Type 0) (handed taken : ℕ → ℕ) (s : StorageState) (m : Metadata) (s' : StorageState) (m' : Metadata)
    → (IsSound m → (c : ℕ) → 0 < referenced m c → taken c ≡ 0) → PreservesGuest ok handed taken s m s' m' → Progresses ok (handing handed taken) s m s' m'
quiet-progresses ok handed taken s m s' m' spared quietly = record {
  shape = quietly.shape;
  counts_not_fallen = quietly.counts_not_fallen;
  passes = λ keeps sound no_change_refused.
      let told = quietly.passes keeps sound no_change_refused in
      (told.0, stops_weaker _ (LeftBy (handing handed taken) m) s s' (λ _ x shows. (shows.0, quiet-left (λ p v. ⊥) m (bytes_of x) shows.0 sound shows.1)) told.1);
  holds = λ keeps sound done. let left = quietly.holds keeps sound done in quiet-advances m m' handed taken sound left.0 left.1 (spared sound);
}

-- The kind of a call can be widened if it allocates and takes the same. The condition of success can be strengthened.
pub progresses-otherwise : (ok ok' : Type 0) (kind wider : Kind) (s : StorageState) (m : Metadata) (s' : StorageState) (m' : Metadata)
    → IsWider kind wider → (IsTrue s.shape.keeps → IsSound m → ok' → ok)
    → (IsTrue s.shape.keeps → IsSound m → ok' → (c : ℕ) → kind.excess_added c + wider.taken c ≡ wider.excess_added c + kind.taken c)
    → (IsTrue s.shape.keeps → IsSound m → ok' → (c : ℕ) → IsUsed m c → wider.taken c ≡ 0 → kind.taken c ≡ 0)
    → Progresses ok kind s m s' m' → Progresses ok' wider s m s' m'
progresses-otherwise ok ok' kind wider s m s' m' is from same spared progress = record {
  shape = progress.shape;
  counts_not_fallen = progress.counts_not_fallen;
  passes = wider-passes kind wider s m s' is.gives progress.passes;
  holds = λ keeps sound done.
      advances-weaker kind.gives wider.gives kind.written wider.written kind.set wider.set kind.excess_added kind.taken wider.excess_added wider.taken m m'
      is.gives is.written is.set (same keeps sound done) (spared keeps sound done) (progress.holds keeps sound (from keeps sound done));
}

-- The kind of a call can be widened.
pub progresses-weaker : (ok ok' : Type 0) (kind wider : Kind) (s : StorageState) (m : Metadata) (s' : StorageState) (m' : Metadata)
    → IsWider kind wider → (ok' → ok) → ((c : ℕ) → wider.excess_added c ≡ kind.excess_added c) → ((c : ℕ) → wider.taken c ≡ kind.taken c)
    → Progresses ok kind s m s' m' → Progresses ok' wider s m s' m'
progresses-weaker ok ok' kind wider s m s' m' is from handed taken progress =
    progresses-otherwise ok ok' kind wider s m s' m' is (λ keeps sound done. from done)
    (λ keeps sound done c. let h = handed c in let t = taken c in omega (arith, h, t))
    (λ keeps sound done c used none. let t = taken c in omega (arith, t, none)) progress

-- After a resource error the kind can be any that allows the crash images, for any metadata in memory.
pub progresses-halted : (ok ok' : Type 0) (kind wider : Kind) (s : StorageState) (m : Metadata) (s' : StorageState) (m' m'' : Metadata)
    → IsWider kind wider → (IsTrue s.shape.keeps → IsSound m → ok' → ⊥) → Progresses ok kind s m s' m' → Progresses ok' wider s m s' m''
progresses-halted ok ok' kind wider s m s' m' m'' is never progress = record {
  shape = progress.shape;
  counts_not_fallen = progress.counts_not_fallen;
  passes = wider-passes kind wider s m s' is.gives progress.passes;
  holds = λ keeps sound done. absurd (never keeps sound done);
}

-- A change that is only in memory makes no request.
pub progresses-in-memory : (ok : Type 0) (kind : Kind) (s : StorageState) (m m' : Metadata) → (IsSound m → ok → AdvancesBy kind m m')
    → Progresses ok kind s m s m'
progresses-in-memory ok kind s m m' advances = record {
  shape = refl;
  counts_not_fallen = later_same s;
  passes = λ keeps sound no_change_refused. (λ same. same, no_stops _ s s refl refl);
  holds = λ keeps sound done. advances sound done;
}

-- Two calls. The first has no resource error, and the second may use its result.
pub progresses-then-given : (ok done : Type 0) (one two : Kind) (s : StorageState) (m : Metadata) (s1 : StorageState) (m1 : Metadata)
    (s2 : StorageState) (m2 : Metadata) → done → Progresses done one s m s1 m1 → s2.shape ≡ s1.shape → CountsNotFallen s1 s2
    → (IsTrue s.shape.keeps → IsSound m → AdvancesBy one m m1 → Progresses ok two s1 m1 s2 m2) → Progresses ok (both one two) s m s2 m2
progresses-then-given ok done one two s m s1 m1 s2 m2 was first shape later second = record {
  shape = shape ∙ first.shape;
  counts_not_fallen = later_both s s1 s2 first.counts_not_fallen later;
  passes = λ keeps sound no_change_refused.
      let calm-first : HasRisen s.refusals s1.refusals → ⊥ = λ r. no_change_refused (rose_before s.refusals s1.refusals s2.refusals r later.refusals) in
      let calm-second : HasRisen s1.refusals s2.refusals → ⊥ = λ r. no_change_refused (rose_behind s.refusals s1.refusals s2.refusals first.counts_not_fallen.refusals r) in
      let mid = first.holds keeps sound was in
      let a = first.passes keeps sound calm-first in
      let b = (second keeps sound mid).passes (keeps_on s s1 first.shape keeps) mid.sound calm-second in (
        λ same. b.0 (a.0 same),
        stops_both (LeftBy one m) (LeftBy two m1) (LeftBy (both one two) m) s s1 s2 first.shape a.0
            (λ _ x left. (left.0, left-weaker one.gives (both one two).gives (wider-first one two).gives m (bytes_of x) left.0 left.1))
            (λ _ x left. (left.0, left-then one.gives two.gives one.written one.set one.excess_added one.taken m m1 mid (bytes_of x) left.0 left.1)) a.1 b.1,
      );
  holds = λ keeps sound whole.
      let mid = first.holds keeps sound was in
      let last = (second keeps sound mid).holds (keeps_on s s1 first.shape keeps) mid.sound whole in
      advances-then one.gives two.gives one.written one.set one.excess_added one.taken m m1 mid two.written two.set two.excess_added two.taken m2 last;
}

-- Two calls. The first has no resource error.
pub progresses-then : (ok done : Type 0) (one two : Kind) (s : StorageState) (m : Metadata) (s1 : StorageState) (m1 : Metadata)
    (s2 : StorageState) (m2 : Metadata) → done → Progresses done one s m s1 m1 → Progresses ok two s1 m1 s2 m2 → Progresses ok (both one two) s m s2 m2
progresses-then ok done one two s m s1 m1 s2 m2 was first second =
    progresses-then-given ok done one two s m s1 m1 s2 m2 was first second.shape second.counts_not_fallen (λ keeps sound step. second)
