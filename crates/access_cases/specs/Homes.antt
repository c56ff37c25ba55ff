-- Lemmas about a one-cluster image: where its bytes can be written in place, which bytes a prepared mapping holds until a commit, and what
-- is allocated.
use Rattle.std.specs.Prelude.{◌≡◌, ◌⊎◌, ℕ, ◌<◌, ◌≤◌, max, ◌&&◌, Bool, true, false, Some, None, IsSome, if◌then◌else◌, ltb, leb}
use Rattle.std.proofs.Common.{ap, refl, inl, inr, arith}
use Rattle.std.proofs.lemmas.Bool.{ltb-true, le-ltb}
use Rattle.std.proofs.Math.Nat.{le_refl}
use Rattle.imago_storage.specs.Disk.{byte}
use Rattle.imago_access.specs.Layer.{own, unmapped, loose}
use Rattle.access_cases.specs.declared.clusters.Content.{Content}
use Rattle.access_cases.specs.declared.clusters.Content.TheVariants.{Unmapped, Zeroed, Barred, Prepared, Mapped}
use Rattle.access_cases.specs.Clusters.{blank_of, home_in, home_of, held_of, unspent_of, IsBare, HasRoom}

-- A byte can only be written at its own offset.
home_once : (start end p q : ℕ) (at : ℕ × ℕ) → home_in start end p ≡ Some at → home_in start end q ≡ Some at → p ≡ q
home_once start end p q at first second = from (leb start p && ltb p end) (leb start q && ltb q end) first second where
  from : (a b : Bool) → (if a then Some (0, p) else None) ≡ Some at → (if b then Some (0, q) else None) ≡ Some at → p ≡ q
  from true true first second = let is : ◌≡◌ {A = ℕ × ℕ} (0, p) (0, q) = cc in ap (λ (x : ℕ × ℕ). x.1) is
  from true false first second = absurd (cc second)
  from false b first second = absurd (cc first)

pub one_writable_location : (content : Content) (size p q : ℕ) (at : ℕ × ℕ) → home_of content size p ≡ Some at → home_of content size q ≡ Some at → p ≡ q
one_writable_location (Prepared run) size p q at first second = home_once run.start run.end p q at first second
one_writable_location Mapped size p q at first second = home_once 0 size p q at first second
one_writable_location Unmapped size p q at first second = absurd (cc first)
one_writable_location Zeroed size p q at first second = absurd (cc first)
one_writable_location Barred size p q at first second = absurd (cc first)

-- While nothing is prepared, no byte is held.
pub free_loose : (content : Content) (size p : ℕ) → unspent_of content ≡ None → held_of content size p ≡ loose
free_loose (Prepared run) size p free = absurd (cc free)
free_loose Mapped size p free = refl
free_loose Unmapped size p free = refl
free_loose Zeroed size p free = refl
free_loose Barred size p free = refl

-- The single cluster has at least one byte.
pub some_cluster : (size : ℕ) → 0 < max size 1
some_cluster size = Prim.omega arith

-- A byte can't be both unallocated and allocated.
pub not_both : (content : Content) (size p : ℕ) → IsBare content size p → HasRoom content size p → ⊥
not_both Mapped size p (inl past) room = absurd (Prim.omega (arith, past, room))
not_both Mapped size p (inr none) room = none
not_both Unmapped size p bare room = room
not_both Zeroed size p bare room = room
not_both Barred size p bare room = room
not_both (Prepared run) size p bare room = room

-- The part that can be written doesn't reach past the end of the disk.
end_of : (writable : Bool) (size : ℕ) → (if writable then size else 0) ≤ size
end_of true size = le_refl size
end_of false size = Prim.omega arith

and_false : (x y : Bool) → y ≡ false → (x && y) ≡ false
and_false true y is = is
and_false false y is = refl

and_right : (x y : Bool) → (x && y) ≡ true → y ≡ true
and_right true y is = is
and_right false y is = absurd (cc is)

is_there : (b : Bool) (at : ℕ × ℕ) → IsSome (if b then Some at else None) → b ≡ true
is_there true at some = refl
is_there false at some = absurd (cc some)

home_past : (end p : ℕ) → end ≤ p → home_in 0 end p ≡ None
home_past end p past = rw (and_false (leb 0 p) (ltb p end) (le-ltb p end past)) refl

home_before : (end p : ℕ) → IsSome (home_in 0 end p) → p < end
home_before end p some = ltb-true p end (and_right (leb 0 p) (ltb p end) (is_there (leb 0 p && ltb p end) (0, p) some))

-- While nothing is prepared, an unallocated byte has no writable location.
pub bare_homeless : (content : Content) (writable : Bool) (size p : ℕ) → unspent_of content ≡ None → IsBare content size p
    → home_of content (if writable then size else 0) p ≡ None
bare_homeless Mapped writable size p free (inl past) =
    home_past (if writable then size else 0) p (Prim.omega (arith, past, end_of writable size))
bare_homeless Mapped writable size p free (inr none) = absurd none
bare_homeless Unmapped writable size p free bare = refl
bare_homeless Zeroed writable size p free bare = refl
bare_homeless Barred writable size p free bare = refl
bare_homeless (Prepared run) writable size p free bare = absurd (cc free)

-- While nothing is prepared, a byte with a writable location is allocated.
pub housed_room : (content : Content) (writable : Bool) (size p : ℕ) → unspent_of content ≡ None
    → IsSome (home_of content (if writable then size else 0) p) → HasRoom content size p
housed_room Mapped writable size p free some = Prim.omega (arith, home_before (if writable then size else 0) p some, end_of writable size)
housed_room Unmapped writable size p free some = absurd (cc some)
housed_room Zeroed writable size p free some = absurd (cc some)
housed_room Barred writable size p free some = absurd (cc some)
housed_room (Prepared run) writable size p free some = absurd (cc free)

-- An unmapped byte is read from the layer below (the backing file), or is 0.
pub blanks : (backed : Bool) → (blank_of backed ≡ unmapped) ⊎ (blank_of backed ≡ own (byte 0))
blanks true = inl refl
blanks false = inr refl
