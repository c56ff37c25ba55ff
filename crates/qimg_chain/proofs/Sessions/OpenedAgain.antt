-- A crash image opens again, over files with the bytes of those below, and its disk reads as the crash clause says.
use Rattle.std.proofs.Common.{◌≡◌, ◌≢◌, ◌∙◌, ◌∷◌, ◌<◌, ◌≤◌, [], ℕ, List, ap, arith, length, refl, subst, sym}
use Rattle.std.specs.Prelude.{Bool, Err, None, Ok, Option, Result, Some, cond, false, is_some, ltb, true}
use Rattle.std.specs.declared.string.String.{String}
use Rattle.std.specs.declared.alloc.Global.{Global}
use Rattle.std.proofs.lemmas.List.{length-map}
use Rattle.imago_storage.specs.Disk.{Disk, byte}
use Rattle.imago_storage.specs.State.{StorageState}
use Rattle.imago_storage.specs.declared.fault.Fault.{Fault}
use Rattle.imago_access.specs.Layer.{Meaning, through, unmapped}
use Rattle.imago_access.specs.declared.format.Format.{Format}
use Rattle.imago_access.specs.declared.format.Format.TheVariants.{Qcow2, Raw, Vmdk}
use Rattle.qcow2_types.specs.Bytes.{Bytes, bytes_of}
use Rattle.qcow2_types.specs.Consistency.{IsConsistent}
use Rattle.qcow2_types.specs.Header.{Header, first_fault, header_of, ◌and-then◌, ◌>>=◌}
use Rattle.qcow2_image.specs.ImageLayer.{meaning_of, qcow2_meaning}
use Rattle.qcow2_image.specs.Opening.{header_for, rules_of_opening}
use Rattle.qcow2_image.proofs.OpenRefusals.{reads-too}
use Rattle.qimg_calls.specs.Since.{Since, Shows, value_over}
use Rattle.qimg_core.specs.declared.plain.ChainFile.{ChainFile}
use Rattle.qimg_chain.specs.Chains.{IsSoundAs}
use Rattle.qimg_chain.specs.FileLayers.{IsLayerAs, asked_of, said_of}
use Rattle.qimg_chain.specs.FileMeanings.{FileBytes, IsDiskOf, file_bytes, file_meaning, files_bytes, meaning_as, value_of}
use Rattle.qimg_chain.specs.OneDisk.{reading_over}
use Rattle.qimg_chain.specs.Refusals.{ArePlaced, FormChain, misplaced}
use Rattle.qimg_chain.specs.OpenedAgain.{IsDiskSince, IsLeftOf}
use Rattle.qimg_chain.specs.TopChecks.{IsAccepted}
use Rattle.qimg_chain.proofs.FitFiles.{opens}
use Rattle.qimg_chain.proofs.HandedIn.{by-itself}

-- ---- Whether a qcow2 file refers to a backing file.

-- A test of a header that was read.
said-of : (asks : Header → Bool) (r : Result Header Fault) (named : Bool) → asked_of asks r ≡ Ok named
    → (H : Header) × (r ≡ Ok H) × (asks H ≡ named)
said-of asks (Ok H) named says = (H, refl, cc says)
said-of asks (Err fault) named says = absurd (cc says)

-- A header with which an image is opened is that of its file.
passed : (why : Option Fault) (K H : Header) → why and-then Ok K ≡ Ok H → K ≡ H
passed None K H e = cc e
passed (Some fault) K H e = absurd (cc e)

read-first : (r : Result Header Fault) (H : Header) (after : Header → Option Fault) → (r >>= λ K. after K and-then Ok K) ≡ Ok H → r ≡ Ok H
read-first (Ok K) H after is = ap Ok (passed (after K) K H is)
read-first (Err fault) H after is = absurd (cc is)

loads-of : (writable : Bool) (f : Bytes) (H : Header) → header_for writable f ≡ Ok H → header_of writable f ≡ Ok H
unfolding header_for
loads-of writable f H opened = read-first (header_of writable f) H (λ K. first_fault (rules_of_opening writable f K.fields)) opened

-- A file that opens means an image that is backed as its header says.
pub backed-as-said : (writable : Bool) (bytes : List ℕ) (named : Bool) → said_of Qcow2 writable bytes ≡ Ok named
    → (qcow2_meaning unmapped bytes).backed ≡ named
backed-as-said writable bytes named says =
    let said = said-of (λ H. is_some H.backing_name) (header_for writable (bytes_of bytes)) named says in
    let loads = reads-too writable (bytes_of bytes) said.0 (loads-of writable (bytes_of bytes) said.0 said.1) in
    ap (λ r. (meaning_of unmapped (bytes_of bytes) r).backed) loads ∙ said.2

-- A consistent file that means a backed image says so, and one that doesn't says that.
said-as-backed : (writable : Bool) (bytes : List ℕ) (K : Header) → IsConsistent (bytes_of bytes) K
    → said_of Qcow2 writable bytes ≡ Ok (qcow2_meaning unmapped bytes).backed
said-as-backed writable bytes K sound =
    let loads = opens false (bytes_of bytes) K sound in
    ap (asked_of (λ H. is_some H.backing_name)) (opens writable (bytes_of bytes) K sound)
    ∙ ap (λ r. Ok (meaning_of unmapped (bytes_of bytes) r).backed) (sym (loads-of false (bytes_of bytes) K loads))

-- ---- The crash image as a layer.

module _ {S T : Type 0} (state : S → StorageState) (other : T → StorageState) where
  -- A crash image is a layer over the same files below.
  layer-again : (writable named : Bool) (f g : Format) (old new : StorageState) (handed : List (String Global × S))
      (others : List (String Global × T)) (extras : List (List ℕ × List ℕ)) (further : List StorageState) → f ≢ Vmdk → g ≡ f → IsSoundAs f new.bytes
      → (meaning_as f new.bytes extras).backed ≡ (meaning_as f old.bytes extras).backed
      → IsLayerAs state f writable old handed named further → IsLayerAs other g writable new others named []
  layer-again writable named Raw Raw old new handed others extras further differs same sound backed layer = record { says = layer.says; has = refl }
  layer-again writable named Qcow2 Qcow2 old new handed others extras further differs same sound backed layer = record {
    says = said-as-backed writable new.bytes sound.0 sound.1
        ∙ ap Ok (backed ∙ backed-as-said writable old.bytes named layer.says);
    has = refl;
  }
  layer-again writable named Vmdk g old new handed others extras further differs same sound backed layer = absurd (differs refl)
  layer-again writable named Raw Qcow2 old new handed others extras further differs same sound backed layer = absurd (cc same)
  layer-again writable named Raw Vmdk old new handed others extras further differs same sound backed layer = absurd (cc same)
  layer-again writable named Qcow2 Raw old new handed others extras further differs same sound backed layer = absurd (cc same)
  layer-again writable named Qcow2 Vmdk old new handed others extras further differs same sound backed layer = absurd (cc same)

  -- As many files are as well placed.
  placed-again : (named : Bool) (below : List (ChainFile S)) (others : List (ChainFile T)) → length others ≡ length below
      → misplaced named below ≡ None → misplaced named others ≡ None
  placed-again true [] others same placed = absurd (cc placed)
  placed-again true (file ∷ below) [] same placed = absurd (omega (arith, same))
  placed-again true (file ∷ below) (again ∷ others) same placed = refl
  placed-again false [] [] same placed = refl
  placed-again false [] (again ∷ others) same placed = absurd (omega (arith, same))
  placed-again false (file ∷ below) others same placed = absurd (cc placed)

  module _ (top : ChainFile S) (below : List (ChainFile S)) (since : Since) (again : ChainFile T) (others : List (ChainFile T))
      (left : IsLeftOf state other top below since again others) where
    many : length others ≡ length below
    many = sym (length-map others (file_bytes other)) ∙ ap (λ (files : List FileBytes). length files) left.same ∙ length-map below (file_bytes state)

    pub opened-formed : (writable : Bool) → FormChain state writable (top ∷ below) → ArePlaced other false others
        → FormChain other writable (again ∷ others)
    opened-formed writable formed placed =
        let first = formed.2.0 in
        let bounded = formed.1 in
        let as_many = many in (
          omega arith,
          omega (arith, bounded, as_many),
          (
            (
              first.0,
              [],
              layer-again writable first.0 top.format again.format (state top.image) (other again.image) top.extras.items again.extras.items
                  (file_bytes state top).extras first.1 left.no_vmdk left.format left.left.is_sound left.left.reads.backed first.2,
              placed-again first.0 below others many first.3,
            ),
            placed,
          ),
        )

    pub opened-accepted : IsAccepted other again
    opened-accepted = subst (λ f. IsSoundAs f (other again.image).bytes) (sym left.format) left.left.is_sound

    -- The crash image means the same, whichever further files are supplied.
    same-meaning : file_meaning (file_bytes other again) ≡ (reading_over (file_bytes state top) (files_bytes state below)).means (other again.image).bytes
    same-meaning = ap (λ f. meaning_as f (other again.image).bytes (file_bytes other again).extras) left.format
        ∙ by-itself top.format left.no_vmdk (other again.image).bytes (file_bytes other again).extras (file_bytes state top).extras

    pub opened-reads : (disk : Disk) → IsDiskOf disk (files_bytes other (again ∷ others)) → IsDiskSince state top below since disk
    opened-reads disk is =
        let top_is = reading_over (file_bytes state top) (files_bytes state below) in
        let meaning = top_is.means (other again.image).bytes in
        let size : disk.size ≡ meaning.size = is.size ∙ ap (λ (m : Meaning). m.size) same-meaning in
        let value : (p : ℕ) → disk.value p ≡ value_over top_is.below meaning p = λ p. is.value p
        ∙ ap (λ (m : Meaning). cond (ltb p m.size) (through (m.cell p) (value_of (files_bytes other others) p)) (byte 0)) same-meaning
        ∙ ap (λ files. cond (ltb p meaning.size) (through (meaning.cell p) (value_of files p)) (byte 0)) left.same in
        record {
          long = subst (λ n. since.least ≤ n) (sym size) left.left.reads.long;
          short = λ exact. subst (λ n. n ≤ since.most) (sym size) (left.left.reads.short exact);
          shows = λ p inside low. subst (λ v. Shows top_is.below since p v) (sym (value p))
              (left.left.reads.shows p (subst (λ n. p < n) size inside) low);
        }
