-- Crash images of consecutive calls.
use Rattle.std.proofs.Common.{◌≡◌, ◌⊎◌, inl, inr, ℕ, ◌<◌, ◌≤◌, List, [], ◌∷◌, ◌++◌, arith, sym, ◌∙◌, ap, subst}
use Rattle.std.specs.Prelude.{IsTrue, All}
use Rattle.std.proofs.lemmas.List.Elements.{All-head}
use Rattle.imago_storage.specs.State.{StorageState, CrashImageIsBytes}
use Rattle.imago_storage.specs.Through.{EachCrashImageIn}
use Rattle.imago_storage.specs.Disk.{Value}
use Rattle.imago_storage.proofs.Composing.{tells_on, keeps_on, no_stops, stops_both, stops_weaker, rose_before, rose_behind}
use Rattle.imago_access.specs.Layer.{Layer, Fixed}
use Rattle.imago_access.specs.Chain.{at}
use Rattle.imago_access.specs.Files.{IsLater}
use Rattle.imago_storage.specs.Passing.{UnrefusedCrashImages}
use Rattle.imago_access.specs.Stops.{shown, May, Left, MakesNone}

-- The newest crash image has P, if any was added.
pub newest : (P : List ℕ → Type 0) (a b : StorageState) (files : List (List ℕ)) → b.crash_image ∷ b.past_crash_images ≡ files ++ (a.crash_image ∷ a.past_crash_images) → All P files → (b.crash_image ≡ a.crash_image) ⊎ P b.crash_image
newest P a b [] told each = inl (cc told)
newest P a b (f ∷ fs) told each = let is : b.crash_image ≡ f = cc told in inr (subst P (sym is) (All-head P f fs each))

-- The file is unchanged, or has P as a crash image.
pub here : (P : List ℕ → Type 0) (a b : StorageState) → IsLater a b → CrashImageIsBytes a → CrashImageIsBytes b → IsTrue a.shape.tells → IsTrue a.shape.keeps → EachCrashImageIn P a b → (b.bytes ≡ a.bytes) ⊎ P b.bytes
here P a b later was is tells keeps stops =
    let now : b.crash_image ≡ b.bytes = is (tells_on a b later.0 tells) (keeps_on a b later.0 keeps) in
    let before : a.crash_image ≡ a.bytes = was tells keeps in
    elim (newest P a b stops.files stops.told stops.each) [ inl same ↦ inl (sym now ∙ same ∙ before) | inr holds ↦ inr (subst P now holds) ]

-- Two consecutive calls. The second one's crash images may depend on the file between the calls.
pub passes_both : (P Q R : List ℕ → Type 0) (a b c : StorageState) → IsLater a b → IsLater b c → ((f : List ℕ) → P f → R f) → (((b.bytes ≡ a.bytes) ⊎ P b.bytes) → (f : List ℕ) → Q f → R f)
    → UnrefusedCrashImages P a b → UnrefusedCrashImages Q b c → UnrefusedCrashImages R a c
passes_both P Q R a b c ab bc from_first from_second first second no_change_refused =
    let one = first (λ r. no_change_refused (rose_before a.refusals b.refusals c.refusals r bc.1.refusals)) in
    let two = second (λ r. no_change_refused (rose_behind a.refusals b.refusals c.refusals ab.1.refusals r)) in (
      λ same. two.0 (one.0 same),
      λ same tells keeps. stops_both P Q R a b c ab.0 one.0 (λ k f p. from_first f p) (λ k f q. from_second (here P a b ab same (one.0 same) tells keeps (one.1 same tells keeps)) f q) one.1 two.1 same tells keeps,
    )

pub passes_weaker : (P Q : List ℕ → Type 0) (a b : StorageState) → ((f : List ℕ) → P f → Q f) → UnrefusedCrashImages P a b → UnrefusedCrashImages Q a b
passes_weaker P Q a b more passes no_change_refused = let one = passes no_change_refused in (one.0, stops_weaker P Q a b (λ k f p. more f p) one.1)

pub passes_none : (P : List ℕ → Type 0) (a b : StorageState) → b.shape ≡ a.shape → MakesNone a b → UnrefusedCrashImages P a b
passes_none P a b shape none no_change_refused = (
  λ same tells keeps. none.0 ∙ same (subst (λ (s : _). IsTrue s.tells) shape tells) (subst (λ (s : _). IsTrue s.keeps) shape keeps) ∙ sym none.2,
  no_stops P a b none.0 none.1,
)

pub passes_on : (P : List ℕ → Type 0) (a b c : StorageState) → c ≡ b → UnrefusedCrashImages P a b → UnrefusedCrashImages P a c
passes_on P a b c same passes = subst (UnrefusedCrashImages P a) (sym same) passes

-- A file that a crash in a later call leaves, seen from the entry of the first call. The later call starts with a file that the first may
-- leave. Each value of its disk at entry, and each that it gives, is one that the whole may show.
module _ (below : List Layer) (sound : ℕ → List ℕ → Type 0) (entry mid : Layer) (file mid_file : List ℕ) (least most : ℕ) (gives later_gives : ℕ → Value → Type 0)
    (fixed : mid.fixed ≡ entry.fixed) (size : mid.size ≡ entry.size) (refers : (entry.fixed.means mid_file).backed ≡ (entry.fixed.means file).backed)
    (between : (p : ℕ) → p < entry.size → May below entry file gives p (shown below entry.fixed.means mid_file p))
    (disk : (p : ℕ) → p < entry.size → May below entry file gives p (at (mid ∷ below) p))
    (given : (p : ℕ) (v : Value) → p < entry.size → later_gives p v → May below entry file gives p v) where
  pub left_from : (f : List ℕ) → Left below mid mid_file sound least most later_gives f → Left below entry file sound least most gives f
  left_from f later = record {
    is_sound = subst (λ (x : Fixed). sound x.kind f) fixed later.is_sound;
    backed = subst (λ (x : Fixed). (x.means f).backed ≡ (x.means mid_file).backed) fixed later.backed ∙ refers;
    size = subst (λ (x : Fixed). least ≤ (x.means f).size) fixed later.size;
    no_longer = subst (λ (x : Fixed). IsTrue x.exact → (x.means f).size ≤ most) fixed later.no_longer;
    shows = λ p inside in_disk.
        let same : shown below mid.fixed.means f p ≡ shown below entry.fixed.means f p = ap (λ (x : Fixed). shown below x.means f p) fixed in
        let was : shown below mid.fixed.means mid_file p ≡ shown below entry.fixed.means mid_file p = ap (λ (x : Fixed). shown below x.means mid_file p) fixed in
        subst (May below entry file gives p) same
        (elim (later.shows p (subst (λ (x : Fixed). p < (x.means f).size) (sym fixed) inside) (rw size in_disk)) [
          | inl meant ↦ subst (May below entry file gives p) (sym (meant ∙ was)) (between p in_disk)
          | inr rest ↦ elim rest [
            | inl value ↦ subst (May below entry file gives p) (sym value) (disk p in_disk)
            | inr gave ↦ given p (shown below mid.fixed.means f p) in_disk gave
          ]
        ]);
  }

-- A later call, with both seen from the entry of the first, which doesn't change the size.
pub then_left : (below : List Layer) (sound : ℕ → List ℕ → Type 0) (entry mid : Layer) (least most : ℕ) (gives later_gives : ℕ → Value → Type 0) (a b c : StorageState)
    → IsLater a b → IsLater b c → mid.fixed ≡ entry.fixed → mid.size ≡ entry.size → least ≤ entry.size → entry.size ≤ most
    → ((p : ℕ) → p < entry.size → May below entry a.bytes gives p (at (mid ∷ below) p))
    → ((p : ℕ) (v : Value) → p < entry.size → later_gives p v → May below entry a.bytes gives p v)
    → UnrefusedCrashImages (Left below entry a.bytes sound entry.size entry.size gives) a b → UnrefusedCrashImages (Left below mid b.bytes sound least most later_gives) b c
    → UnrefusedCrashImages (Left below entry a.bytes sound least most gives) a c
then_left below sound entry mid least most gives later_gives a b c ab bc fixed size low high disk given first second =
    let between : ((b.bytes ≡ a.bytes) ⊎ Left below entry a.bytes sound entry.size entry.size gives b.bytes) → (p : ℕ) → p < entry.size → May below entry a.bytes gives p (shown below entry.fixed.means b.bytes p) = λ how p inside.
    elim how [
      | inl same ↦ inl (ap (λ (f : List ℕ). shown below entry.fixed.means f p) same)
      | inr left ↦ left.shows p (omega (arith, left.size)) inside
    ] in
    let refers : ((b.bytes ≡ a.bytes) ⊎ Left below entry a.bytes sound entry.size entry.size gives b.bytes) → (entry.fixed.means b.bytes).backed ≡ (entry.fixed.means a.bytes).backed = λ how.
    elim how [ inl same ↦ ap (λ (f : List ℕ). (entry.fixed.means f).backed) same | inr left ↦ left.backed ] in
    passes_both (Left below entry a.bytes sound entry.size entry.size gives) (Left below mid b.bytes sound least most later_gives)
    (Left below entry a.bytes sound least most gives) a b c ab bc
    (λ f left. record { is_sound = left.is_sound; backed = left.backed; size = omega (arith, left.size); no_longer = λ exact. omega (arith, left.no_longer exact, high); shows = left.shows })
    (λ how. left_from below sound entry mid a.bytes b.bytes least most gives later_gives fixed size (refers how) (between how) disk given)
    first second

-- The values that a call gives can be weakened.
pub left_weaker : (below : List Layer) (sound : ℕ → List ℕ → Type 0) (entry : Layer) (file : List ℕ) (least most : ℕ) (gives more : ℕ → Value → Type 0)
    → ((p : ℕ) (v : Value) → p < entry.size → gives p v → May below entry file more p v) → (f : List ℕ) → Left below entry file sound least most gives f → Left below entry file sound least most more f
left_weaker below sound entry file least most gives more weaker f left = record {
  is_sound = left.is_sound;
  backed = left.backed;
  size = left.size;
  no_longer = left.no_longer;
  shows = λ p inside in_disk. elim (left.shows p inside in_disk) [
    | inl was ↦ inl was
    | inr rest ↦ elim rest [ inl value ↦ inr (inl value) | inr gave ↦ weaker p (shown below entry.fixed.means f p) in_disk gave ]
  ];
}
