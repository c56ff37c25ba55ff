-- The state of a `PagedStorage` after one more request.
use Rattle.std.proofs.Common.{◌≡◌, refl, inl, inr, ℕ, ◌+◌, ◌-◌, ◌<◌, max, List, [], ◌∷◌, ◌++◌, length, replicate, arith, sym, ◌∙◌, ap, subst}
use Rattle.std.specs.Prelude.{Result, Ok, Err, OnOk, IfErr, EachIndex, slice_index}
use Rattle.std.proofs.lemmas.Bool.{cases_lt}
use Rattle.std.proofs.lemmas.List.{get_or_past}
use Rattle.imago_storage.specs.Calls.{Changed, RequestsOne, Resized, Spliced, Written}
use Rattle.imago_storage.specs.Log.{apply, replay, resized, splice}
use Rattle.imago_storage.specs.declared.fault.Fault.{Fault}
use Rattle.imago_storage.specs.declared.log.Request.{Request}
use Rattle.imago_storage.proofs.Logging.{replayed-same}
use Rattle.imago_storage.proofs.Replay.{length-resized, length-splice, replay-push, request_pushed, resized_at, splice-spliced}
use Rattle.imago_storage.proofs.Zeroes.{zero_at}
use Rattle.host_file.specs.declared.file.HostFile.{Ghosts}
use Rattle.paged_storage.specs.Pages.{AreBytes}
use Rattle.paged_storage.specs.PagedFiles.{file_shown}
use Rattle.paged_storage.specs.PagedStorage.{paged_state}
use Rattle.paged_storage.specs.declared.paged_storage.PagedStorage.{PagedStorage}

-- Bytes that stay bytes.

pub zeroes_are_bytes : (n : ℕ) → AreBytes (replicate n 0)
zeroes_are_bytes n k = subst (λ (z : ℕ). z < 256) (sym (zero_at n k)) (omega arith)

pub each_is_byte : (bytes : List ℕ) → EachIndex bytes (λ k. slice_index bytes k < 256) → AreBytes bytes
each_is_byte bytes each k = elim (cases_lt k (length bytes)) [
  | inl lt ↦ each k lt
  | inr past ↦ subst (λ (z : ℕ). z < 256) (sym (get_or_past bytes k 0 past)) (omega arith)
]

pub splice_are_bytes : (file : List ℕ) (at : ℕ) (bytes : List ℕ) → AreBytes file → AreBytes bytes → AreBytes (splice file at bytes)
splice_are_bytes file at bytes old written k =
    let spliced = splice-spliced file at bytes in
    elim (cases_lt k at) [
      | inl before ↦ subst (λ (z : ℕ). z < 256) (sym (spliced.before k before)) (old k)
      | inr from ↦ elim (cases_lt k (at + length bytes)) [
        | inl to ↦ subst (λ (z : ℕ). z < 256) (sym (spliced.inside k from to)) (written (k - at))
        | inr after ↦ subst (λ (z : ℕ). z < 256) (sym (spliced.after k after)) (old k)
      ]
    ]

pub resized_are_bytes : (file : List ℕ) (n : ℕ) → AreBytes file → AreBytes (resized file n)
resized_are_bytes file n old k = elim (cases_lt k n) [
  | inl lt ↦ subst (λ (z : ℕ). z < 256) (sym (resized_at file n k lt)) (old k)
  | inr past ↦ subst (λ (z : ℕ). z < 256) (sym (get_or_past (resized file n) k 0 (omega (arith, past, length-resized file n)))) (omega arith)
]

-- A storage without requests has the bytes of its file.

pub none_size : (base : List ℕ) (requests : List Request) → requests ≡ [] → (size result : ℕ) → result ≡ size → length base ≡ size → result ≡ length (replay base requests)
none_size base requests none size result is sized = is ∙ sym sized ∙ ap (λ (l : List Request). length (replay base l)) (sym none)

pub none_bytes : (base : List ℕ) (requests : List Request) → requests ≡ [] → AreBytes base → AreBytes (replay base requests)
none_bytes base requests none bytes = subst (λ (l : List Request). AreBytes (replay base l)) (sym none) bytes

both-ok : {T E : Type 0} (result : Result T E) (A B C : Type 0) → (A → B → C) → OnOk result A → OnOk result B → OnOk result C
both-ok (Ok x) A B C both a b = both a b
both-ok (Err e) A B C both a b = tt

module _ {H : Type 0} (g : Ghosts H) (old : PagedStorage H g) (request : Request) where
  abbrev base : List ℕ
  base = file_shown g old.base.now

  abbrev bytes_of : List ℕ
  bytes_of = replay base old.requests.items

  -- The premises of a request before it is appended: the size of the file after it, and that its content consists of bytes.

  pub write_size : (at : ℕ) (bytes : List ℕ) (n size : ℕ) → apply request bytes_of ≡ splice bytes_of at bytes → n ≡ length bytes → size ≡ max old.size (at + n)
      → size ≡ length (replay base (old.requests.items ++ request ∷ []))
  write_size at bytes n size is long grown =
      let pushed : length (replay base (old.requests.items ++ request ∷ [])) ≡ length (splice bytes_of at bytes) = ap (λ (l : List ℕ). length l) (replay-push base old.requests.items request ∙ is) in
      let sized : old.size ≡ length bytes_of = old.sized in
      omega (arith, pushed, length-splice bytes_of at bytes, sized, long, grown)

  pub write_bytes : (at : ℕ) (bytes : List ℕ) → apply request bytes_of ≡ splice bytes_of at bytes → AreBytes bytes → AreBytes (replay base (old.requests.items ++ request ∷ []))
  write_bytes at bytes is written = subst AreBytes (sym (replay-push base old.requests.items request ∙ is)) (splice_are_bytes bytes_of at bytes old.bytes written)

  pub resize_size : (size : ℕ) → apply request bytes_of ≡ resized bytes_of size → size ≡ length (replay base (old.requests.items ++ request ∷ []))
  resize_size size is = sym (ap (λ (l : List ℕ). length l) (replay-push base old.requests.items request ∙ is) ∙ length-resized bytes_of size)

  pub resize_bytes : (size : ℕ) → apply request bytes_of ≡ resized bytes_of size → AreBytes (replay base (old.requests.items ++ request ∷ []))
  resize_bytes size is = subst AreBytes (sym (replay-push base old.requests.items request ∙ is)) (resized_are_bytes bytes_of size old.bytes)

  module _ (new : PagedStorage H g) (same_base : new.base ≡ old.base) where
    base_stays : file_shown g new.base.now ≡ base
    base_stays = ap (λ b. file_shown g b.now) same_base

    -- A call that appends the request, or fails and changes no request.
    pub kept-once : {T : Type 0} (result : Result T Fault) → OnOk result (new.requests.items ≡ old.requests.items ++ request ∷ []) → IfErr result (λ _. new.requests.items ≡ old.requests.items)
        → RequestsOne (paged_state g old) (paged_state g new) result
    unfolding paged_state
    kept-once (Ok x) pushed same = λ _. request_pushed base (file_shown g new.base.now) old.requests.items new.requests.items request base_stays pushed
    kept-once (Err e) pushed same = replayed-same base (file_shown g new.base.now) old.requests.items new.requests.items base_stays same

    module _ (same_faults : new.faults ≡ old.faults) where
      -- The request was appended.
      module _ (pushed : new.requests.items ≡ old.requests.items ++ request ∷ []) (same_refusals : new.refusals ≡ old.refusals) where
        replayed : replay (file_shown g new.base.now) new.requests.items ≡ apply request bytes_of
        replayed = ap (λ (b : List ℕ). replay b new.requests.items) base_stays ∙ ap (replay base) pushed ∙ replay-push base old.requests.items request

        changed : Changed (paged_state g old) (paged_state g new)
        unfolding paged_state
        changed = record {
          shape = refl;
          faults = same_faults;
          refusals = same_refusals;
          mark = λ _. request_pushed base (file_shown g new.base.now) old.requests.items new.requests.items request base_stays pushed;
          crash_image_is_bytes = λ _ _ _. refl;
        }

        write-pushed : (at : ℕ) (bytes : List ℕ) → apply request bytes_of ≡ splice bytes_of at bytes → Written (paged_state g old) (paged_state g new) at bytes
        unfolding paged_state
        write-pushed at bytes is = record {
          changed = changed;
          content = λ _. subst (Spliced bytes_of at bytes) (sym (replayed ∙ is)) (splice-spliced bytes_of at bytes);
          size = ap (λ (l : List ℕ). length l) (replayed ∙ is) ∙ length-splice bytes_of at bytes;
        }

        resize-pushed : (size : ℕ) → apply request bytes_of ≡ resized bytes_of size → Resized (paged_state g old) (paged_state g new) size
        unfolding paged_state
        resize-pushed size is = record {
          changed = changed;
          content = λ _ k lt. ap (λ (l : List ℕ). slice_index l k) (replayed ∙ is) ∙ resized_at bytes_of size k lt;
          size = ap (λ (l : List ℕ). length l) (replayed ∙ is) ∙ length-resized bytes_of size;
        }

      module _ {T : Type 0} (result : Result T Fault) (pushed : OnOk result (new.requests.items ≡ old.requests.items ++ request ∷ [])) (same_refusals : OnOk result (new.refusals ≡ old.refusals)) where
        pub write-kept : (at : ℕ) (bytes : List ℕ) → apply request bytes_of ≡ splice bytes_of at bytes → OnOk result (Written (paged_state g old) (paged_state g new) at bytes)
        write-kept at bytes is = both-ok result _ _ _ (λ p s. write-pushed p s at bytes is) pushed same_refusals

        pub resize-kept : (size : ℕ) → apply request bytes_of ≡ resized bytes_of size → OnOk result (Resized (paged_state g old) (paged_state g new) size)
        resize-kept size is = both-ok result _ _ _ (λ p s. resize-pushed p s size is) pushed same_refusals
