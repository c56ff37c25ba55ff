-- The program's arguments have at most one meaning.
use Rattle.std.proofs.Common.{◌≡◌, ◌∙◌, refl, ap, sym, arith, ℕ, List, [], ◌∷◌, ◌++◌, append_assoc, append-nil, get_or, drop, map, length, length-drop, subst, String, Global, ◌+◌, ◌*◌, ◌-◌, ◌<◌, ◌≤◌}
use Rattle.std.proofs.lemmas.List.{flat_map_more, drop_more, drop_all, length-map, length_push, map_push}
use Rattle.std.specs.Prelude.{◌≢◌, flat_map, codes, string_bytes}
use Rattle.imago_storage.specs.declared.fault.Fault.{Fault}
use Rattle.imago_storage.specs.declared.fault.Fault.TheVariants.{BadArgument, Memory}
use Rattle.imago_access.specs.declared.format.Format.{Format}
use Rattle.imago_access.specs.declared.format.Format.TheVariants.{Raw, Qcow2, Vmdk}
use Rattle.qimg_chain.specs.declared.arguments.LayerArgument.{LayerArgument}
use Rattle.qimg_chain.specs.declared.arguments.Opening.{Opening}
use Rattle.qimg_chain.specs.declared.arguments.Opening.TheVariants.{Writable, ReadOnly, ForCommit}
use Rattle.qimg_chain.specs.Arguments.{AskedLayer, Asked, extra_words, format_word, layer_words, asked_words, AskFor, AreNoFile, IsExtras, IsLayer, WhyNotRead, AskForNone, IsOpening, extra_of, layer_of, opening_words}

heads : (a b : ℕ) (more others : List ℕ) → a ∷ more ≡ b ∷ others → a ≡ b
heads a b more others same = cc

-- No format is written as `file`, `-r` or `-c`.
pub format-is-no-file : (f : Format) → format_word f ≡ codes "file" → ⊥
format-is-no-file Raw same = omega (arith, heads 114 102 _ _ same)
format-is-no-file Qcow2 same = omega (arith, heads 113 102 _ _ same)
format-is-no-file Vmdk same = omega (arith, heads 118 102 _ _ same)

pub format-is-no-choice : (f : Format) → format_word f ≡ codes "-r" → ⊥
format-is-no-choice Raw same = omega (arith, heads 114 45 _ _ same)
format-is-no-choice Qcow2 same = omega (arith, heads 113 45 _ _ same)
format-is-no-choice Vmdk same = omega (arith, heads 118 45 _ _ same)

pub format-by-word : (f e : Format) → format_word f ≡ format_word e → f ≡ e
format-by-word Raw Raw same = refl
format-by-word Qcow2 Qcow2 same = refl
format-by-word Vmdk Vmdk same = refl
format-by-word Raw Qcow2 same = absurd (omega (arith, heads 114 113 _ _ same))
format-by-word Raw Vmdk same = absurd (omega (arith, heads 114 118 _ _ same))
format-by-word Qcow2 Raw same = absurd (omega (arith, heads 113 114 _ _ same))
format-by-word Qcow2 Vmdk same = absurd (omega (arith, heads 113 118 _ _ same))
format-by-word Vmdk Raw same = absurd (omega (arith, heads 118 114 _ _ same))
format-by-word Vmdk Qcow2 same = absurd (omega (arith, heads 118 113 _ _ same))

pub format-is-no-commit : (f : Format) → format_word f ≡ codes "-c" → ⊥
format-is-no-commit Raw same = omega (arith, heads 114 45 _ _ same)
format-is-no-commit Qcow2 same = omega (arith, heads 113 45 _ _ same)
format-is-no-commit Vmdk same = omega (arith, heads 118 45 _ _ same)

choices-differ : codes "-r" ≡ codes "-c" → ⊥
choices-differ same = let second : 114 ∷ [] ≡ 99 ∷ [] = cc in let letter : 114 ≡ 99 = heads 114 99 [] [] second in omega (arith, letter)

abbrev asking : Opening → List AskedLayer → Asked
asking opening layers = record { opening = opening; layers = layers }

-- The arguments after the first one, if it says how the images are opened, or all.
abbrev after-first : Opening → List ℕ → List (List ℕ) → List (List ℕ)
after-first Writable word words = word ∷ words
after-first opening word words = words

-- The arguments of layers begin with a format.
pub layers-are-no-file : (layers : List AskedLayer) (rest : List (List ℕ)) → flat_map layer_words layers ≡ codes "file" ∷ rest → ⊥
layers-are-no-file [] rest same = cc
layers-are-no-file (layer ∷ layers) rest same = let first : format_word layer.format ≡ codes "file" = cc in format-is-no-file layer.format first

pub layers-are-no-choice : (layers : List AskedLayer) (rest : List (List ℕ)) → flat_map layer_words layers ≡ codes "-r" ∷ rest → ⊥
layers-are-no-choice [] rest same = cc
layers-are-no-choice (layer ∷ layers) rest same = let first : format_word layer.format ≡ codes "-r" = cc in format-is-no-choice layer.format first

pub layers-are-no-commit : (layers : List AskedLayer) (rest : List (List ℕ)) → flat_map layer_words layers ≡ codes "-c" ∷ rest → ⊥
layers-are-no-commit [] rest same = cc
layers-are-no-commit (layer ∷ layers) rest same = let first : format_word layer.format ≡ codes "-c" = cc in format-is-no-commit layer.format first

-- Some further files are parsed. For each meaning as further files and then layers, the rest is further files and these layers.
pub record FilesTaken (words rest : List (List ℕ)) (taken : List (List ℕ × List ℕ)) : Type 0 where
  pub words_are : words ≡ flat_map extra_words taken ++ rest
  pub others : (extras : List (List ℕ × List ℕ)) (layers : List AskedLayer) → words ≡ flat_map extra_words extras ++ flat_map layer_words layers
      → (more : List (List ℕ × List ℕ)) × (rest ≡ flat_map extra_words more ++ flat_map layer_words layers)

-- One more further file is parsed.
pub files-more : (words after : List (List ℕ)) (taken : List (List ℕ × List ℕ)) (name path : List ℕ) → FilesTaken words (codes "file" ∷ name ∷ path ∷ after) taken
    → FilesTaken words after (taken ++ (name, path) ∷ [])
files-more words after taken name path before = record {
  words_are = before.words_are ∙ (sym (append_assoc (flat_map extra_words taken) (codes "file" ∷ name ∷ path ∷ []) after) ∙ ap (λ front. front ++ after) (flat_map_more extra_words [] taken (name, path)));
  others = λ extras layers are. let old = before.others extras layers are in next old.0 layers old.1;
}
  where
    next : (more : List (List ℕ × List ℕ)) (layers : List AskedLayer) → codes "file" ∷ name ∷ path ∷ after ≡ flat_map extra_words more ++ flat_map layer_words layers
        → (left : List (List ℕ × List ℕ)) × (after ≡ flat_map extra_words left ++ flat_map layer_words layers)
    next [] layers are = absurd (layers-are-no-file layers (name ∷ path ∷ after) (sym are))
    next (extra ∷ more) layers are = (more, cc)

-- The rest doesn't begin with a further file.
pub files-end : (words rest : List (List ℕ)) (taken : List (List ℕ × List ℕ)) → FilesTaken words rest taken → AreNoFile rest → IsExtras words taken rest
files-end words rest taken all none = record { words_are = all.words_are; leaves = λ extras layers are. let left = all.others extras layers are in ends layers left.0 left.1 }
  where
    ends : (layers : List AskedLayer) (more : List (List ℕ × List ℕ)) → rest ≡ flat_map extra_words more ++ flat_map layer_words layers → rest ≡ flat_map layer_words layers
    ends layers [] is = is
    ends layers (extra ∷ more) is = absurd (none extra.0 extra.1 (flat_map extra_words more ++ flat_map layer_words layers) is)

-- Some layers are parsed. If the arguments are layers, so is the rest.
pub record LayersTaken (words rest : List (List ℕ)) (taken : List AskedLayer) : Type 0 where
  pub words_are : words ≡ flat_map layer_words taken ++ rest
  pub others : (layers : List AskedLayer) → words ≡ flat_map layer_words layers → (more : List AskedLayer) × (rest ≡ flat_map layer_words more)

-- One more layer is parsed.
pub layers-more : (words rest left : List (List ℕ)) (taken : List AskedLayer) (layer : AskedLayer) → LayersTaken words rest taken → IsLayer rest layer left → LayersTaken words left (taken ++ layer ∷ [])
layers-more words rest left taken layer before is = record {
  words_are = before.words_are ∙ (ap (λ behind. flat_map layer_words taken ++ behind) front
      ∙ (sym (append_assoc (flat_map layer_words taken) (layer_words layer) left) ∙ ap (λ front. front ++ left) (flat_map_more layer_words [] taken layer)));
  others = λ layers all. let old = before.others layers all in next old.0 old.1;
}
  where
    front : rest ≡ layer_words layer ++ left
    front = is.words_are ∙ ap (λ behind. format_word layer.format ∷ layer.path ∷ behind) is.extras_are.words_are

    next : (more : List AskedLayer) → rest ≡ flat_map layer_words more → (others : List AskedLayer) × (left ≡ flat_map layer_words others)
    next [] same = let none : format_word layer.format ∷ layer.path ∷ is.words_after ≡ [] = sym is.words_are ∙ same in absurd (cc)
    next (one ∷ more) same =
        let both : format_word layer.format ∷ layer.path ∷ is.words_after ≡ layer_words one ++ flat_map layer_words more = sym is.words_are ∙ same in
        let behind : is.words_after ≡ flat_map extra_words one.extras ++ flat_map layer_words more = cc in
        (more, is.extras_are.leaves one.extras more behind)

-- If nothing is left, the arguments are these layers.
pub layers-end : (words rest : List (List ℕ)) (taken : List AskedLayer) → LayersTaken words rest taken → rest ≡ [] → words ≡ flat_map layer_words taken
layers-end words rest taken all none = all.words_are ∙ (ap (λ behind. flat_map layer_words taken ++ behind) none ∙ append-nil (flat_map layer_words taken))

pub no-layer : (words : List (List ℕ)) → words ≡ [] → (layers : List AskedLayer) → layers ≢ [] → words ≡ flat_map layer_words layers → ⊥
no-layer words none [] some are = some refl
no-layer words none (layer ∷ layers) some are = let same : [] ≡ flat_map layer_words (layer ∷ layers) = sym none ∙ are in cc

-- A list that begins with an argument other than a format, or has only one argument, isn't layers.
pub no-format : (word : List ℕ) (behind : List (List ℕ)) → ((f : Format) → word ≡ format_word f → ⊥) → (layers : List AskedLayer) → word ∷ behind ≡ flat_map layer_words layers → ⊥
no-format word behind none [] is = cc
no-format word behind none (layer ∷ layers) is = let first : word ≡ format_word layer.format = cc in none layer.format first

pub lone-word : (words : List (List ℕ)) (layers : List AskedLayer) → words ≡ flat_map layer_words layers → length words ≡ 1 → ⊥
lone-word words [] is one = let none : length words ≡ 0 = ap length is in omega arith
lone-word words (layer ∷ layers) is one = let two : length words ≡ length (flat_map layer_words (layer ∷ layers)) = ap length is in omega arith

-- The arguments from an index on, from those that were read there.
pub word-there : {A : Type 0} (now : A → List ℕ) (xs : List A) (at : ℕ) (a : A) → a ≡ get_or xs at a → at < length xs → map now (drop at xs) ≡ now a ∷ map now (drop (at + 1) xs)
word-there now xs at a is lt = ap (map now) (drop_more xs at a lt ∙ ap (λ x. x ∷ drop (at + 1) xs) (sym is))

pub two-words : {A : Type 0} (now : A → List ℕ) (xs : List A) (at : ℕ) (a b : A) → a ≡ get_or xs at a → b ≡ get_or xs (at + 1) b → at + 1 < length xs
    → map now (drop at xs) ≡ now a ∷ now b ∷ map now (drop (at + 2) xs)
two-words now xs at a b first second lt =
    word-there now xs at a first (omega arith)
    ∙ (ap (λ ws. now a ∷ ws) (word-there now xs (at + 1) b second lt) ∙ ap (λ k. now a ∷ now b ∷ map now (drop k xs)) (omega arith))

pub few-no-layer : {A : Type 0} (now : A → List ℕ) (xs : List A) (at : ℕ) → at < length xs → length xs - at < 2 → (layers : List AskedLayer) → map now (drop at xs) ≡ flat_map layer_words layers → ⊥
few-no-layer now xs at inside few layers are =
    let one : length (map now (drop at xs)) ≡ 1 = length-map (drop at xs) now ∙ (length-drop at xs ∙ omega arith) in
    lone-word (map now (drop at xs)) layers are one

pub no-format-there : {A : Type 0} (now : A → List ℕ) (xs : List A) (at : ℕ) (d : A) → at < length xs → ((f : Format) → now (get_or xs at d) ≡ format_word f → ⊥)
    → (layers : List AskedLayer) → map now (drop at xs) ≡ flat_map layer_words layers → ⊥
no-format-there now xs at d lt none layers are = no-format (now (get_or xs at d)) (map now (drop (at + 1) xs)) none layers (sym (ap (map now) (drop_more xs at d lt)) ∙ are)

-- One more further file, and one more layer, as they are parsed.
pub extras-more : {A : Type 0} (now : A → List ℕ) (xs : List A) (at n : ℕ) (old new : List (String Global × String Global)) (name path : String Global) (n-bytes p-bytes : List ℕ) (words : List (List ℕ))
    → FilesTaken words (map now (drop (at + 3 * length old) xs)) (map extra_of old) → n ≡ length old → new ≡ old ++ (name, path) ∷ [] → string_bytes name ≡ n-bytes → string_bytes path ≡ p-bytes
    → map now (drop (at + 3 * n) xs) ≡ codes "file" ∷ n-bytes ∷ p-bytes ∷ map now (drop (at + 3 * n + 3) xs)
    → FilesTaken words (map now (drop (at + 3 * length new) xs)) (map extra_of new)
extras-more now xs at n old new name path n-bytes p-bytes words before count is named placed there =
    let longer : length new ≡ length old + 1 = ap length is ∙ length_push old (name, path) in
    let items : map extra_of old ++ (n-bytes, p-bytes) ∷ [] ≡ map extra_of new =
    ap (λ b. map extra_of old ++ (b, p-bytes) ∷ []) (sym named) ∙ (ap (λ b. map extra_of old ++ (string_bytes name, b) ∷ []) (sym placed) ∙ (sym (map_push extra_of old (name, path)) ∙ ap (map extra_of) (sym is))) in
    let front : map now (drop (at + 3 * length old) xs) ≡ codes "file" ∷ n-bytes ∷ p-bytes ∷ map now (drop (at + 3 * n + 3) xs) = ap (λ k. map now (drop (at + 3 * k) xs)) (sym count) ∙ there in
    let more : FilesTaken words (map now (drop (at + 3 * n + 3) xs)) (map extra_of old ++ (n-bytes, p-bytes) ∷ []) =
    files-more words (map now (drop (at + 3 * n + 3) xs)) (map extra_of old) n-bytes p-bytes (subst (λ rest. FilesTaken words rest (map extra_of old)) front before) in
    let place : at + 3 * n + 3 ≡ at + 3 * length new = omega arith in
    subst (λ taken. FilesTaken words (map now (drop (at + 3 * length new) xs)) taken) items
    (subst (λ k. FilesTaken words (map now (drop k xs)) (map extra_of old ++ (n-bytes, p-bytes) ∷ [])) place more)

pub extras-end : {A : Type 0} (now : A → List ℕ) (xs : List A) (at n m : ℕ) (taken : List (List ℕ × List ℕ)) (words : List (List ℕ)) → n ≡ m
    → FilesTaken words (map now (drop (at + 3 * m) xs)) taken → AreNoFile (map now (drop (at + 3 * n) xs)) → IsExtras words taken (map now (drop (at + 3 * m) xs))
extras-end now xs at n m taken words count all none = files-end words (map now (drop (at + 3 * m) xs)) taken all (subst (λ k. AreNoFile (map now (drop (at + 3 * k) xs))) count none)

pub layer-more : {A : Type 0} (now : A → List ℕ) (xs : List A) (at n : ℕ) (old new : List LayerArgument) (layer : LayerArgument) (words : List (List ℕ))
    → LayersTaken words (map now (drop at xs)) (map layer_of old) → IsLayer (map now (drop at xs)) (layer_of layer) (map now (drop (at + 2 + 3 * length layer.extras.items) xs))
    → n ≡ length layer.extras.items → new ≡ old ++ layer ∷ [] → LayersTaken words (map now (drop (at + (2 + 3 * n)) xs)) (map layer_of new)
layer-more now xs at n old new layer words before is count items =
    let more : LayersTaken words (map now (drop (at + 2 + 3 * length layer.extras.items) xs)) (map layer_of old ++ layer_of layer ∷ []) =
    layers-more words (map now (drop at xs)) (map now (drop (at + 2 + 3 * length layer.extras.items) xs)) (map layer_of old) (layer_of layer) before is in
    let place : at + 2 + 3 * length layer.extras.items ≡ at + (2 + 3 * n) = omega arith in
    subst (λ taken. LayersTaken words (map now (drop (at + (2 + 3 * n)) xs)) taken) (sym (map_push layer_of old layer) ∙ ap (map layer_of) (sym items))
    (subst (λ k. LayersTaken words (map now (drop k xs)) (map layer_of old ++ layer_of layer ∷ [])) place more)

pub none-left : {A : Type 0} (now : A → List ℕ) (xs : List A) (at : ℕ) → length xs ≤ at → map now (drop at xs) ≡ []
none-left now xs at past = ap (map now) (drop_all at xs past)

pub no-layers-left : (layers : List LayerArgument) → 0 < length layers → map layer_of layers ≡ [] → ⊥
no-layers-left [] some none = omega (arith, some)
no-layers-left (layer ∷ layers) some none = cc

-- The layers are after the first argument if it says how the images are opened. Otherwise they begin with it.
pub is-read : {A : Type 0} (now : A → List ℕ) (xs : List A) (d : A) (o : Opening) (layers : List AskedLayer) → 0 < length xs
    → IsOpening (now (get_or xs 0 d)) o → map now (drop (length (opening_words o)) xs) ≡ flat_map layer_words layers
    → map now xs ≡ opening_words o ++ flat_map layer_words layers
is-read now [] d o layers some is are = absurd (omega arith)
is-read now (x ∷ xs) d Writable layers some is are = are
is-read now (x ∷ xs) d ReadOnly layers some is are = ap (λ w. w ∷ map now xs) is ∙ ap (λ ws. codes "-r" ∷ ws) are
is-read now (x ∷ xs) d ForCommit layers some is are = ap (λ w. w ∷ map now xs) is ∙ ap (λ ws. codes "-c" ∷ ws) are

-- If no layers follow the first argument, which says how the images are opened, the list asks for no chain.
no-opening : (o : Opening) (word : List ℕ) (words : List (List ℕ)) → IsOpening word o
    → ((layers : List AskedLayer) → layers ≢ [] → after-first o word words ≡ flat_map layer_words layers → ⊥)
    → (other : Opening) (layers : List AskedLayer) → word ∷ words ≡ asked_words (asking other layers) → layers ≢ [] → ⊥
no-opening Writable word words is none Writable layers are some = none layers some are
no-opening Writable word words is none ReadOnly layers are some = let first : word ≡ codes "-r" = cc in is.0 first
no-opening Writable word words is none ForCommit layers are some = let first : word ≡ codes "-c" = cc in is.1 first
no-opening ReadOnly word words is none ReadOnly layers are some = none layers some (cc)
no-opening ReadOnly word words is none Writable layers are some =
    layers-are-no-choice layers words (sym are ∙ ap (λ w. w ∷ words) is)
no-opening ReadOnly word words is none ForCommit layers are some = let first : word ≡ codes "-c" = cc in choices-differ (sym is ∙ first)
no-opening ForCommit word words is none ForCommit layers are some = none layers some (cc)
no-opening ForCommit word words is none Writable layers are some =
    layers-are-no-commit layers words (sym are ∙ ap (λ w. w ∷ words) is)
no-opening ForCommit word words is none ReadOnly layers are some = let first : word ≡ codes "-r" = cc in choices-differ (sym first ∙ is)

pub not-read : {A : Type 0} (now : A → List ℕ) (xs : List A) (d : A) (o : Opening) (fault : Fault) → 0 < length xs
    → IsOpening (now (get_or xs 0 d)) o → AskForNone (map now (drop (length (opening_words o)) xs)) fault → WhyNotRead (map now xs) fault
not-read now [] d o fault some is none = absurd (omega arith)
not-read now (x ∷ xs) d o Memory some is none = tt
not-read now (x ∷ xs) d Writable BadArgument some is none =
    ((λ is. cc), λ asked for. no-opening Writable (now x) (map now xs) is none asked.opening asked.layers for.0 for.1)
not-read now (x ∷ xs) d ReadOnly BadArgument some is none =
    ((λ is. cc), λ asked for. no-opening ReadOnly (now x) (map now xs) is none asked.opening asked.layers for.0 for.1)
not-read now (x ∷ xs) d ForCommit BadArgument some is none =
    ((λ is. cc), λ asked for. no-opening ForCommit (now x) (map now xs) is none asked.opening asked.layers for.0 for.1)
not-read now (x ∷ xs) d o fault some is none = absurd none

-- Two parses as further files and then layers have the same files, and two parses as layers are the same.
files-once : (es fs : List (List ℕ × List ℕ)) (xs ys : List AskedLayer) → flat_map extra_words es ++ flat_map layer_words xs ≡ flat_map extra_words fs ++ flat_map layer_words ys
    → (es ≡ fs) × (flat_map layer_words xs ≡ flat_map layer_words ys)
files-once [] [] xs ys same = (refl, same)
files-once [] (f ∷ fs) xs ys same = absurd (layers-are-no-file xs _ same)
files-once (e ∷ es) [] xs ys same = absurd (layers-are-no-file ys _ (sym same))
files-once (e ∷ es) (f ∷ fs) xs ys same =
    let rest : flat_map extra_words es ++ flat_map layer_words xs ≡ flat_map extra_words fs ++ flat_map layer_words ys = cc in
    let name : e.0 ≡ f.0 = cc in
    let path : e.1 ≡ f.1 = cc in
    let more = files-once es fs xs ys rest in
    (same-heads e f es fs name path more.0, more.1)
  where
    same-heads : (e f : List ℕ × List ℕ) (es fs : List (List ℕ × List ℕ)) → e.0 ≡ f.0 → e.1 ≡ f.1 → es ≡ fs → e ∷ es ≡ f ∷ fs
    same-heads e f es fs name path rest = ap (λ n. (n, e.1) ∷ es) name ∙ (ap (λ p. (f.0, p) ∷ es) path ∙ ap (λ l. f ∷ l) rest)

pub layers-once : (xs ys : List AskedLayer) → flat_map layer_words xs ≡ flat_map layer_words ys → xs ≡ ys
layers-once [] [] same = refl
layers-once [] (y ∷ ys) same = absurd (cc)
layers-once (x ∷ xs) [] same = absurd (cc)
layers-once (x ∷ xs) (y ∷ ys) same =
    let format : x.format ≡ y.format = let word : format_word x.format ≡ format_word y.format = cc in format-by-word x.format y.format word in
    let path : x.path ≡ y.path = cc in
    let behind : flat_map extra_words x.extras ++ flat_map layer_words xs ≡ flat_map extra_words y.extras ++ flat_map layer_words ys = cc in
    let rest = files-once x.extras y.extras xs ys behind in
    let more : xs ≡ ys = layers-once xs ys rest.1 in
    same-layers x y xs ys format path rest.0 more
  where
    same-layers : (x y : AskedLayer) (xs ys : List AskedLayer) → x.format ≡ y.format → x.path ≡ y.path → x.extras ≡ y.extras → xs ≡ ys → x ∷ xs ≡ y ∷ ys
    same-layers x y xs ys format path extras rest =
        ap (λ f. record { format = f; path = x.path; extras = x.extras } ∷ xs) format
        ∙ (ap (λ p. record { format = y.format; path = p; extras = x.extras } ∷ xs) path
        ∙ (ap (λ e. record { format = y.format; path = y.path; extras = e } ∷ xs) extras ∙ ap (λ l. y ∷ l) rest))

pub asked-once : (words : List (List ℕ)) (a b : Asked) → AskFor words a → AskFor words b → a ≡ b
asked-once words a b one other = once a.opening b.opening a.layers b.layers (sym one.0 ∙ other.0)
  where
    once : (r s : Opening) (xs ys : List AskedLayer) → asked_words (asking r xs) ≡ asked_words (asking s ys) → asking r xs ≡ asking s ys
    once Writable Writable xs ys same = ap (asking Writable) (layers-once xs ys same)
    once ReadOnly ReadOnly xs ys same = ap (asking ReadOnly) (layers-once xs ys (cc))
    once ForCommit ForCommit xs ys same = ap (asking ForCommit) (layers-once xs ys (cc))
    once ReadOnly Writable xs ys same = absurd (layers-are-no-choice ys _ (sym same))
    once Writable ReadOnly xs ys same = absurd (layers-are-no-choice xs _ same)
    once ForCommit Writable xs ys same = absurd (layers-are-no-commit ys _ (sym same))
    once Writable ForCommit xs ys same = absurd (layers-are-no-commit xs _ same)
    once ReadOnly ForCommit xs ys same = let first : codes "-r" ≡ codes "-c" = cc in absurd (choices-differ first)
    once ForCommit ReadOnly xs ys same = let first : codes "-c" ≡ codes "-r" = cc in absurd (choices-differ (sym first))
