-- After a flush the files of a chain mean its disk by themselves.
use Rattle.std.proofs.Common.{◌≡◌, ◌⊎◌, ◌∙◌, ◌∷◌, ◌<◌, ◌≤◌, [], ℕ, zero, suc, List, ap, arith, inl, inr, refl, subst, sym, take}
use Rattle.std.specs.Prelude.{Bool, IsSome, None, Option, Some, ◌&&◌, ◌||◌, drop, false, is_some, map, slice_get, true}
use Rattle.std.proofs.Math.Bool.{or-false, or_assoc}
use Rattle.std.proofs.lemmas.Bool.{cases_lt, le-ltb, lt-ltb}
use Rattle.imago_storage.specs.Disk.{Value, byte}
use Rattle.imago_storage.specs.State.{StorageState}
use Rattle.imago_storage.specs.declared.fault.Fault.{Fault}
use Rattle.imago_storage.specs.declared.fault.Fault.TheVariants.{BadArgument}
use Rattle.imago_access.specs.Chain.{Each, IsBacked, at, disk_of}
use Rattle.imago_access.specs.Committing.{IsCommittable, OfNext}
use Rattle.imago_access.specs.Files.{Pairs, UnchangedButMoreFaults, files_of}
use Rattle.imago_access.specs.Layer.{Fixed, Layer, IsFree, through, unmapped}
use Rattle.imago_access.specs.Layers.{chain}
use Rattle.imago_access.specs.Running.{IsIntactChain, chain_disk}
use Rattle.imago_access.specs.Stops.{IsCounted, IsMeant, IsWritten}
use Rattle.imago_access.specs.declared.driver_model.DriverModel.{Ghosts}
use Rattle.imago_access.proofs.FilePairs.{kept_all_same}
use Rattle.qimg_calls.specs.Calls.{Either, GoesOn, any_commit_down, any_repair, commits_down, is_out_of_place, repairs}
use Rattle.qimg_calls.specs.CommittingDown.{takes_commits}
use Rattle.qimg_calls.specs.Held.{chain_with_mapping, state_of}
use Rattle.qimg_calls.specs.Moves.{refusal_at_once}
use Rattle.qimg_calls.specs.Runs.{AllGoOn, IsSameChain, ListStep, MayCommit, Made, Moment, Run, moment}
use Rattle.qimg_calls.specs.Since.{Since}
use Rattle.qimg_calls.specs.declared.call.Answer.{Answer}
use Rattle.qimg_calls.specs.declared.call.Answer.TheVariants as told
use Rattle.qimg_calls.specs.declared.call.Call.{Call}
use Rattle.qimg_calls.specs.declared.call.Call.TheVariants as calls
use Rattle.qimg_calls.proofs.SameChains.{same-chain-both}
use Rattle.qimg_core.specs.declared.plain.ChainFile.{ChainFile}
use Rattle.qimg_chain.specs.Chains.{AreInPlace, AreLayers, IsInPlace, OpenMode, mode_below, mode_of_next}
use Rattle.qimg_chain.specs.FileMeanings.{FileBytes, FindsByNames, MeansFile, driver_bytes, file_meaning, value_of}
use Rattle.qimg_chain.specs.FlushedFiles.{EachFlushMeans, EndsFlushed, FilesMeanDisk, FlushesAt, IsChainOf, IsOpenedSince, LeaksSince}
use Rattle.qimg_chain.specs.FlushedFiles.{Opened, ShowDisk, below_since, opened_as}
use Rattle.qimg_chain.proofs.FilesShown.{over}
use Rattle.qimg_chain.proofs.Sessions.Closed.{call-early, same-takes}
use Rattle.qimg_chain.proofs.ToldStops.{either-way, later-run}

-- ---- Layers over others.

-- A layer shows the layers below it, if any.
pub shows-below : (below : List Layer) (old layer : Layer) → IsInPlace below old → layer.fixed ≡ old.fixed
    → (p : ℕ) → (layer.fixed.blank ≡ unmapped) ⊎ (at below p ≡ byte 0)
shows-below [] old layer place same p = inr refl
shows-below (next ∷ below) old layer place same p = inl (ap (λ (x : Fixed). x.blank) same ∙ place)

-- A layer whose file means what the layer says, over layers that show what files mean.
written-over : (layer : Layer) (below : List Layer) (bytes : List ℕ) (file : FileBytes) (files : List FileBytes) → IsMeant layer bytes
    → MeansFile layer bytes file → ((p : ℕ) → p < layer.size → at below p ≡ value_of files p)
    → ((p : ℕ) → (layer.fixed.blank ≡ unmapped) ⊎ (at below p ≡ byte 0)) → ShowDisk layer.fixed.exact (disk_of below layer) (file ∷ files)
written-over layer below bytes file files written means same backed =
    let shows = λ (p : ℕ) (v : Value) (inside : p < layer.size) (known : (layer.fixed.blank ≡ unmapped) ⊎ (v ≡ byte 0)).
    ap (λ c. through c v) (sym (written.cell p inside)) ∙ means.cell p v known in
    let long : layer.size ≤ (file_meaning file).size = omega (arith, written.size, means.size) in
    record {
      size = long;
      value = λ p inside.
          rw (sym (same p inside), lt-ltb p layer.size inside, lt-ltb p (file_meaning file).size (omega (arith, inside, long)))
          (shows p (at below p) inside (backed p));
      exactly = λ exact.
          let size : layer.size ≡ (file_meaning file).size = sym (written.exactly exact) ∙ means.size in record {
            size = size;
            value = λ p. elim (cases_lt p layer.size) [
              | inl inside ↦ rw (sym (same p inside), sym size, lt-ltb p layer.size inside) (shows p (at below p) inside (backed p))
              | inr past ↦ rw (sym size, le-ltb p layer.size past) refl
            ];
          };
    }

-- A layer that reads through to the layers below it, if any.
backed-so : (below : List Layer) (layer : Layer) → IsBacked below layer → (p : ℕ) → (layer.fixed.blank ≡ unmapped) ⊎ (at below p ≡ byte 0)
backed-so [] layer backed p = inr refl
backed-so (next ∷ below) layer backed p = inl backed

-- ---- Leaks since the opening.

-- A call that failed repaired no leaks.
not-repaired : (call : Call) (fault : Fault) → repairs call (told.Refused fault) ≡ false
not-repaired calls.RepairLeaks fault = refl
not-repaired call fault = refl

-- A file whose excess refcounts are all counted leaks nothing after a repair of leaks, and otherwise what it leaked.
leaks-since : (repaired : Bool) (at_opening now leaked leaks : ℕ → ℕ)
    → Either repaired ((c : ℕ) → now c ≡ 0) ((c : ℕ) → now c ≡ at_opening c)
    → ((c : ℕ) → at_opening c ≡ leaked c) → ((c : ℕ) → now c ≡ leaks c) → LeaksSince repaired leaked leaks
leaks-since true at_opening now leaked leaks none was is = λ c. sym (is c) ∙ none c
leaks-since false at_opening now leaked leaks same was is = λ c. sym (is c) ∙ (same c ∙ was c)

by-bool : (b : Bool) (P : Type 0) → (b ≡ true → P) → (b ≡ false → P) → P
by-bool true P first second = first refl
by-bool false P first second = second refl

or-first : (a b : Bool) → a ≡ true → a || b ≡ true
or-first true b is = refl
or-first false b is = absurd (cc is)

or-later : (a b : Bool) → b ≡ true → a || b ≡ true
or-later true b is = refl
or-later false b is = is

either-of : (a b : Bool) → a || false ≡ true → a || b ≡ true
either-of true b is = refl
either-of false b is = absurd (cc is)

and-either : (t a b : Bool) → (t && a) || (t && b) ≡ t && (a || b)
and-either true a b = refl
and-either false a b = refl

and-later : (a b : Bool) → b ≡ false → (a && b) ≡ false
and-later true b closed = closed
and-later false b closed = refl

-- ---- A chain takes commits only if its second file was opened for writing.

some-or-none : (o : Option ℕ) → IsSome o ⊎ (o ≡ None)
some-or-none None = inr refl
some-or-none (Some n) = inl refl

module _ {S D St : Type 0} (g : Ghosts D St) (state : S → StorageState) (m : OpenMode) where
  takes-none : m.next ≡ None → (files : List (ChainFile S)) (c : D × List D)
      → AreLayers g state m files (chain c) → takes_commits (map g.layer (chain c)) ≡ false
  takes-none none [] (d, ds) are = absurd are
  takes-none none (file ∷ []) (d, []) are = refl
  takes-none none (file ∷ []) (d, next ∷ rest) are = absurd are.1
  takes-none none (file ∷ (other ∷ files)) (d, []) are = absurd are.1
  takes-none none (file ∷ (other ∷ files)) (d, next ∷ rest) are =
      and-later (g.layer d).fixed.writable (g.layer next).fixed.writable
      (are.1.0.opened.writable_is ∙ ap (λ (o : Option ℕ). (mode_of_next o).writable) none)

  -- The premise of a list with a commit.
  pub may-by-mode : (files : List (ChainFile S)) (c : D × List D) (list : List Call) → AreLayers g state m files (chain c)
      → (IsSome m.next → IsCommittable g c) → MayCommit g list c
  may-by-mode files c list are committable asks takes = elim (some-or-none m.next) [
    | inl some ↦ committable some
    | inr none ↦ absurd (cc (sym takes ∙ takes-none none files c are))
  ]

module _ {D St : Type 0} (g : Ghosts D St) (names : D → ℕ → List ℕ) where
  -- Layers that were just opened show what their files mean.
  shown : {S : Type 0} (state : S → StorageState) (m : OpenMode) (files : List (ChainFile S)) (ds : List D)
      → AreLayers g state m files ds → AreInPlace (map g.layer ds) → Each (FindsByNames g names) ds
      → (p : ℕ) → at (map g.layer ds) p ≡ value_of (map (driver_bytes g names) ds) p
  shown state m files [] are places named p = refl
  shown state m [] (d ∷ ds) are places named p = absurd are
  shown state m (file ∷ files) (d ∷ ds) are places named p =
      let layer = g.layer d in
      let opened = are.0.opened in
      let shows = λ (q : ℕ) (v : Value) (inside : q < layer.size) (known : (layer.fixed.blank ≡ unmapped) ⊎ (v ≡ byte 0)).
      ap (λ c. through c v) (sym (opened.meant.cell q inside)) ∙ named.0.cell q v known in
      (over layer (map g.layer ds) (driver_bytes g names d) (map (driver_bytes g names) ds)
      (record { size = opened.size_is ∙ named.0.size; cell = shows })
      (shown state (mode_below m) files ds are.1 places.1 named.1) (shows-below (map g.layer ds) layer layer places.0 refl)).value p

  pub below-shown : {S : Type 0} (state : S → StorageState) (m : OpenMode) (files : List (ChainFile S)) (c : D × List D)
      → IsChainOf g names state m files c → (p : ℕ) → at (map g.layer c.1) p ≡ value_of (map (driver_bytes g names) c.1) p
  below-shown state m [] c is p = absurd is.layers
  below-shown state m (file ∷ files) c is p = shown state (mode_below m) files c.1 is.layers.1 is.places.1 is.named.1 p

  deeper-shown : {S : Type 0} (state : S → StorageState) (m : OpenMode) (files : List (ChainFile S)) (c : D × List D)
      → IsChainOf g names state m files c
      → (p : ℕ) → at (map g.layer (drop 1 c.1)) p ≡ value_of (map (driver_bytes g names) (drop 1 c.1)) p
  deeper-shown state m [] c is p = absurd is.layers
  deeper-shown state m (file ∷ []) (d, []) is p = refl
  deeper-shown state m (file ∷ []) (d, next ∷ ds) is p = absurd is.layers.1
  deeper-shown state m (file ∷ (other ∷ files)) (d, []) is p = absurd is.layers.1
  deeper-shown state m (file ∷ (other ∷ files)) (d, next ∷ ds) is p =
      shown state (mode_below (mode_below m)) files ds is.layers.1.1 is.places.1.1 is.named.1.1 p

  -- The next layer reads as its file says, over the layers below it at the opening.
  next-shown : ((d : D) → g.well_formed d → FindsByNames g names d) → (size : ℕ) (olds news : List D)
      → OfNext (λ n. IsIntactChain g n × IsWritten g n.0) news
      → OfNext (λ n. (size ≤ (g.layer n.0).size) ⊎ ((g.layer n.0).fixed.exact ≡ true)) news
      → map g.layer (drop 1 news) ≡ map g.layer (drop 1 olds)
      → ((p : ℕ) → at (map g.layer (drop 1 olds)) p ≡ value_of (map (driver_bytes g names) (drop 1 olds)) p)
      → (p : ℕ) → p < size → at (map g.layer news) p ≡ value_of (map (driver_bytes g names) (below_since true olds news)) p
  next-shown finds size olds [] may spans deep shows p inside = ap (λ layers. at layers p) deep ∙ shows p
  next-shown finds size olds (d ∷ ds) may spans deep shows p inside =
      let over_deeper = written-over (g.layer d) (map g.layer ds) (g.image d).bytes (driver_bytes g names d)
      (map (driver_bytes g names) (drop 1 olds)) may.1 (finds d may.0.is_well_formed)
      (λ q in_layer. ap (λ layers. at layers q) deep ∙ shows q) (backed-so (map g.layer ds) (g.layer d) may.0.backed) in
      elim spans [
        | inl long ↦ over_deeper.value p (omega (arith, inside, long))
        | inr exact ↦ (over_deeper.exactly exact).value p
      ]

  -- ---- What a list of calls preserves.

  -- A call that made no commit keeps the files below.
  same-plain : (call : Call) (answer : Answer) (old new : Moment D St) → GoesOn answer → Made g call answer old new
      → map g.layer new.now.drivers.1 ≡ map g.layer old.now.drivers.1
      → Pairs UnchangedButMoreFaults (files_of g old.now.drivers.1) (files_of g new.now.drivers.1)
      → IsSameChain g (repairs call answer) false old.now.drivers new.now.drivers
  same-plain call answer old new on made below files = record {
    fixed = made.fixed;
    files = λ none. files;
    below = λ none. below;
    deeper_files = made.deeper_files;
    deeper_layers = made.deeper_layers on;
    excess_refcount = made.excess_refcount on;
  }

  same-deep : (call : Call) (answer : Answer) (old new : Moment D St) → GoesOn answer → Made g call answer old new
      → IsSameChain g (repairs call answer) true old.now.drivers new.now.drivers
  same-deep call answer old new on made = record {
    fixed = made.fixed;
    files = λ none. absurd (cc none);
    below = λ none. absurd (cc none);
    deeper_files = made.deeper_files;
    deeper_layers = made.deeper_layers on;
    excess_refcount = made.excess_refcount on;
  }

  -- A commit that ended early made none.
  same-early : (call : Call) (answer : Answer) (old new : Moment D St) → GoesOn answer → Made g call answer old new
      → is_some (refusal_at_once g call old.now) ≡ true → IsSameChain g (repairs call answer) false old.now.drivers new.now.drivers
  same-early call answer old new on made early =
      let same : new.now.drivers.1 ≡ old.now.drivers.1 = (made.untouched (inr early)).1 in
      same-plain call answer old new on made (ap (map g.layer) same)
      (subst (λ ds. Pairs UnchangedButMoreFaults (files_of g old.now.drivers.1) (files_of g ds)) (sym same)
      (kept_all_same (files_of g old.now.drivers.1)))

  abbrev takes : D × List D → Bool
  takes c = takes_commits (map g.layer (chain c))

  takes-same : (old new : D × List D) → (g.layer new.0).fixed ≡ (g.layer old.0).fixed → map g.layer new.1 ≡ map g.layer old.1
      → takes new ≡ takes old
  takes-same old new fixed below =
      same-takes (g.layer old.0) (g.layer new.0) (map g.layer new.1) fixed ∙ ap (λ layers. takes_commits (g.layer old.0 ∷ layers)) below

  -- A chain that takes no commit still takes none after a call.
  takes-before : (call : Call) (answer : Answer) (old new : Moment D St) → GoesOn answer → Made g call answer old new
      → takes new.now.drivers ≡ true → takes old.now.drivers ≡ true
  takes-before call answer old new on made now =
      by-bool (takes old.now.drivers) (takes old.now.drivers ≡ true) (λ is. is) (λ closed.
      let below : map g.layer new.now.drivers.1 ≡ map g.layer old.now.drivers.1 =
      by-bool (commits_down call) (map g.layer new.now.drivers.1 ≡ map g.layer old.now.drivers.1)
      (λ is. ap (map g.layer) (made.untouched (inr (call-early g call old.now closed is))).1) (λ none. made.below none on) in
      absurd (cc (sym now ∙ takes-same old.now.drivers new.now.drivers made.fixed below ∙ closed)))

  -- The conditions of a list hold after its first call.
  may-later : (call : Call) (list : List Call) (answer : Answer) (old new : Moment D St) → GoesOn answer → Made g call answer old new
      → MayCommit g (call ∷ list) old.now.drivers → MayCommit g list new.now.drivers
  may-later call list answer old new on made may asks now =
      made.committable on (may (or-later (commits_down call) (any_commit_down list) asks) (takes-before call answer old new on made now))

  module _ (drivers : D × List D) where
    -- The chain is the one that was opened.
    abbrev Keeps : (repaired committed : Bool) → Moment D St → Type 0
    Keeps repaired committed m = IsOpenedSince g (opened_as drivers repaired committed) m.now.drivers

    -- The cases are an earlier commit, an opened chain that takes commits, and a call that is one.
    keeps-by : (r : Bool) (c t b : Bool) (call : Call) (answer : Answer) (old new : Moment D St) → takes drivers ≡ t → commits_down call ≡ b
        → GoesOn answer → Made g call answer old new → MayCommit g (call ∷ []) old.now.drivers → Keeps r c old
        → Keeps (r || repairs call answer) (c || (t && b)) new
    keeps-by r true t b call answer old new takes_so is on made may keeps = record {
      same_chain = same-chain-both g r true (repairs call answer) true drivers old.now.drivers new.now.drivers keeps.same_chain
          (same-deep call answer old new on made);
      committable = λ _. made.committable on (keeps.committable refl);
    }
    keeps-by r false true true call answer old new takes_so is on made may keeps =
        let now : takes old.now.drivers ≡ true =
        takes-same drivers old.now.drivers keeps.same_chain.fixed (keeps.same_chain.below refl) ∙ takes_so in record {
          same_chain = same-chain-both g r false (repairs call answer) true drivers old.now.drivers new.now.drivers keeps.same_chain
              (same-deep call answer old new on made);
          committable = λ _. made.committable on (may (or-first (commits_down call) false is) now);
        }
    keeps-by r false true false call answer old new takes_so is on made may keeps = record {
      same_chain = same-chain-both g r false (repairs call answer) false drivers old.now.drivers new.now.drivers keeps.same_chain
          (same-plain call answer old new on made (made.below is on) (made.files is));
      committable = λ some. absurd (cc some);
    }
    keeps-by r false false true call answer old new takes_so is on made may keeps =
        let closed : takes old.now.drivers ≡ false =
        takes-same drivers old.now.drivers keeps.same_chain.fixed (keeps.same_chain.below refl) ∙ takes_so in record {
          same_chain = same-chain-both g r false (repairs call answer) false drivers old.now.drivers new.now.drivers keeps.same_chain
              (same-early call answer old new on made (call-early g call old.now closed is));
          committable = λ some. absurd (cc some);
        }
    keeps-by r false false false call answer old new takes_so is on made may keeps = record {
      same_chain = same-chain-both g r false (repairs call answer) false drivers old.now.drivers new.now.drivers keeps.same_chain
          (same-plain call answer old new on made (made.below is on) (made.files is));
      committable = λ some. absurd (cc some);
    }

    keeps-made : (r c : Bool) (call : Call) (answer : Answer) (old new : Moment D St) → GoesOn answer → Made g call answer old new
        → MayCommit g (call ∷ []) old.now.drivers → Keeps r c old
        → Keeps (r || repairs call answer) (c || (takes drivers && commits_down call)) new
    keeps-made r c call answer old new = keeps-by r c (takes drivers) (commits_down call) call answer old new refl refl

  may-first : (call : Call) (list : List Call) (c : D × List D) → MayCommit g (call ∷ list) c → MayCommit g (call ∷ []) c
  may-first call list c may asks = may (either-of (commits_down call) (any_commit_down list) asks)

  may-rest : (call : Call) (list : List Call) (c : D × List D) → MayCommit g (call ∷ list) c → MayCommit g list c
  may-rest call list c may asks = may (or-later (commits_down call) (any_commit_down list) asks)

  module _ (drivers : D × List D) where
    -- A call that isn't made changes nothing.
    keeps-out : (r : Bool) (c t b : Bool) (call : Call) (old : Moment D St) → takes drivers ≡ t → commits_down call ≡ b
        → MayCommit g (call ∷ []) old.now.drivers → Keeps drivers r c old → Keeps drivers r (c || (t && b)) old
    keeps-out r true t b call old takes_so is may keeps = keeps
    keeps-out r false true false call old takes_so is may keeps = keeps
    keeps-out r false false b call old takes_so is may keeps = keeps
    keeps-out r false true true call old takes_so is may keeps =
        let same = keeps.same_chain in record {
          same_chain = record {
            fixed = same.fixed;
            files = λ none. absurd (cc none);
            below = λ none. absurd (cc none);
            deeper_files = same.deeper_files;
            deeper_layers = same.deeper_layers;
            excess_refcount = same.excess_refcount;
          };
          committable = λ _. may (or-first (commits_down call) false is)
              (takes-same drivers old.now.drivers same.fixed (same.below refl) ∙ takes_so);
        }

    keeps-one : (r c : Bool) (call : Call) (answer : Answer) (old new : Moment D St) → GoesOn answer → ListStep g call answer old new
        → MayCommit g (call ∷ []) old.now.drivers → Keeps drivers r c old
        → Keeps drivers (r || repairs call answer) (c || (takes drivers && commits_down call)) new
    keeps-one r c call answer old new on goes may keeps =
        either-way (is_out_of_place (is_some old.now.kept_mapping) call) _ _ goes
        (Keeps drivers (r || repairs call answer) (c || (takes drivers && commits_down call)) new)
        (λ out.
        let none : r || repairs call answer ≡ r =
        ap (λ a. r || repairs call a) out.0 ∙ ap (λ b. r || b) (not-repaired call BadArgument) ∙ or-false r in
        let same = keeps-out r c (takes drivers) (commits_down call) call old refl refl may keeps in
        subst (λ (b : Bool). Keeps drivers b (c || (takes drivers && commits_down call)) new) (sym none)
        (subst (Keeps drivers r (c || (takes drivers && commits_down call))) (sym out.1) same))
        (λ made. keeps-made drivers r c call answer old new on made may keeps)

  may-one : (call : Call) (list : List Call) (answer : Answer) (old new : Moment D St) → GoesOn answer → ListStep g call answer old new
      → MayCommit g (call ∷ list) old.now.drivers → MayCommit g list new.now.drivers
  may-one call list answer old new on goes may =
      either-way (is_out_of_place (is_some old.now.kept_mapping) call) _ _ goes (MayCommit g list new.now.drivers)
      (λ out. subst (λ (m : Moment D St). MayCommit g list m.now.drivers) (sym out.1) (may-rest call list old.now.drivers may))
      (λ made. may-later call list answer old new on made may)

  -- ---- After a flush.

  -- A call that succeeded was made.
  done-made : (call : Call) (old new : Moment D St) → ListStep g call told.Done old new → Made g call told.Done old new
  done-made call old new goes =
      either-way (is_out_of_place (is_some old.now.kept_mapping) call) _ _ goes (Made g call told.Done old new)
      (λ out. absurd (cc out.0)) (λ made. made)

  -- The top's file says what its layer is.
  written-behind : (call : Call) (old new : Moment D St) → EndsFlushed call → Made g call told.Done old new
      → state_of old.now.kept_mapping ≡ None → IsWritten g new.now.drivers.0 × IsCounted g new.now.drivers.0
  written-behind calls.Flush old new ends made none =
      let now = new.now.drivers in
      let stays : g.layer now.0 ≡ g.layer old.now.drivers.0 = made.moves.0.3.0 in
      let free : IsFree (g.layer now.0) = made.mapping_prepared.free (ap state_of made.moves.1 ∙ none) in
      made.moves.0.3.1 (subst IsFree stays free)
  written-behind calls.CommitDown old new ends made none = (made.moves.0.3.top.written, made.moves.0.3.top.counted)
  written-behind call old new ends made none = absurd ends

  module _ (finds : (d : D) → g.well_formed d → FindsByNames g names d) (drivers : D × List D)
      (places : AreInPlace (map g.layer (drivers.0 ∷ drivers.1)))
      (shows : (p : ℕ) → at (map g.layer drivers.1) p ≡ value_of (map (driver_bytes g names) drivers.1) p)
      (deeps : (p : ℕ) → at (map g.layer (drop 1 drivers.1)) p ≡ value_of (map (driver_bytes g names) (drop 1 drivers.1)) p)
      (counted : IsCounted g drivers.0) where
    -- The top over layers that show what files mean.
    over-files : (r c : Bool) (now : D × List D) → IsOpenedSince g (opened_as drivers r c) now → IsWritten g now.0 → g.well_formed now.0
        → (files : List FileBytes) → ((p : ℕ) → p < (g.layer now.0).size → at (map g.layer now.1) p ≡ value_of files p)
        → ((p : ℕ) → ((g.layer now.0).fixed.blank ≡ unmapped) ⊎ (at (map g.layer now.1) p ≡ byte 0))
        → ShowDisk (g.layer now.0).fixed.exact (chain_disk g.layer now) (driver_bytes g names now.0 ∷ files)
    over-files r c now keeps written sound files same backed =
        written-over (g.layer now.0) (map g.layer now.1) (g.image now.0).bytes (driver_bytes g names now.0) files written
        (finds now.0 sound) same backed

    leaks-behind : (r c : Bool) (now : D × List D) → IsOpenedSince g (opened_as drivers r c) now → IsCounted g now.0
        → LeaksSince r ((g.layer drivers.0).fixed.leaks (g.image drivers.0).bytes) ((g.layer now.0).fixed.leaks (g.image now.0).bytes)
    leaks-behind r c now keeps now_counted =
        leaks-since r (g.excess_refcount drivers.0) (g.excess_refcount now.0)
        ((g.layer drivers.0).fixed.leaks (g.image drivers.0).bytes) ((g.layer now.0).fixed.leaks (g.image now.0).bytes)
        keeps.same_chain.excess_refcount counted now_counted

    means-behind : (r c : Bool) (now : D × List D) → IsOpenedSince g (opened_as drivers r c) now → IsWritten g now.0 → IsCounted g now.0
        → g.well_formed now.0 → FilesMeanDisk g names (opened_as drivers r c) now
    means-behind r false now keeps written now_counted sound =
        let kept = keeps.same_chain in
        let same : (p : ℕ) → at (map g.layer now.1) p ≡ value_of (map (driver_bytes g names) drivers.1) p =
        λ p. ap (λ layers. at layers p) (kept.below refl) ∙ shows p in
        let backed : (p : ℕ) → ((g.layer now.0).fixed.blank ≡ unmapped) ⊎ (at (map g.layer now.1) p ≡ byte 0) =
        λ p. subst (λ layers. ((g.layer now.0).fixed.blank ≡ unmapped) ⊎ (at layers p ≡ byte 0)) (sym (kept.below refl))
        (shows-below (map g.layer drivers.1) (g.layer drivers.0) (g.layer now.0) places.0 kept.fixed p) in
        record {
          means = λ _. over-files r false now keeps written sound (map (driver_bytes g names) drivers.1) (λ p inside. same p) backed;
          below = kept.files;
          deeper = kept.deeper_files;
          fixed = kept.fixed;
          leaks = leaks-behind r false now keeps now_counted;
        }
    means-behind r true now keeps written now_counted sound = record {
      means = λ spans.
          let may = keeps.committable refl in
          over-files r true now keeps written sound (map (driver_bytes g names) (below_since true drivers.1 now.1))
          (next-shown finds (g.layer now.0).size drivers.1 now.1 may.next (spans refl) keeps.same_chain.deeper_layers deeps)
          (backed-so (map g.layer now.1) (g.layer now.0) may.chain.backed);
      below = λ none. absurd (cc none);
      deeper = keeps.same_chain.deeper_files;
      fixed = keeps.same_chain.fixed;
      leaks = leaks-behind r true now keeps now_counted;
    }

    flushes : (r c : Bool) (list : List Call) (answers : List Answer) (old last : Moment D St) (place : ℕ) (call : Call) → EndsFlushed call
        → Keeps drivers r c old → MayCommit g list old.now.drivers → Run g list answers old last → slice_get list place ≡ Some call
        → slice_get answers place ≡ Some told.Done → AllGoOn (take place answers)
        → FlushesAt g names (opened_as drivers r c) list answers old last place
    flushes r c [] answers old last place call ends keeps may run is done on = absurd (cc is)
    flushes r c (first ∷ list) [] old last place call ends keeps may run is done on = absurd run
    flushes r c (first ∷ list) (answer ∷ answers) old last zero call ends keeps may run is done on =
        let mid = run.0 in
        let is_call : first ≡ call = cc is in
        let is_done : answer ≡ told.Done = cc done in
        let goes = subst (λ (a : Answer). ListStep g call a old mid) is_done
        (subst (λ (x : Call). ListStep g x answer old mid) is_call run.1) in
        let made = done-made call old mid goes in
        let goes_on : GoesOn answer = subst GoesOn (sym is_done) tt in
        let kept = keeps-one drivers r c first answer old mid goes_on run.1 (may-first first list old.now.drivers may) keeps in
        record {
          call = call;
          is_call = is;
          before = old;
          moment_after = mid;
          run = refl;
          made = made;
          run_after = run.2 goes_on;
          means = λ none.
              let behind = written-behind call old mid ends made none in
              means-behind (r || (repairs first answer || false)) (c || (takes drivers && (commits_down first || false))) mid.now.drivers
              (subst (λ (b : Bool). Keeps drivers (r || b) (c || (takes drivers && (commits_down first || false))) mid)
              (sym (or-false (repairs first answer)))
              (subst (λ (b : Bool). Keeps drivers (r || repairs first answer) (c || (takes drivers && b)) mid)
              (sym (or-false (commits_down first))) kept))
              behind.0 behind.1 (made.ready tt).intact.is_well_formed;
        }
    flushes r c (first ∷ list) (answer ∷ answers) old last (suc place) call ends keeps may run is done on =
        let mid = run.0 in
        let one = repairs first answer in
        let rest = any_repair (take (suc place) list) (take (suc place) answers) in
        let down = commits_down first in
        let later_down = any_commit_down (take (suc place) list) in
        let t = takes drivers in
        let later = flushes (r || one) (c || (t && down)) list answers mid last place call ends
        (keeps-one drivers r c first answer old mid on.0 run.1 (may-first first list old.now.drivers may) keeps)
        (may-one first list answer old mid on.0 run.1 may) (run.2 on.0) is done on.1 in
        record {
          call = later.call;
          is_call = later.is_call;
          before = later.before;
          moment_after = later.moment_after;
          run = (mid, run.1, (λ _. later.run), later-run g (take place list) (take place answers) mid later.before later.run);
          made = later.made;
          run_after = later.run_after;
          means = λ none.
              let now = later.moment_after.now.drivers in
              subst (λ (b : Bool). FilesMeanDisk g names (opened_as drivers b (c || (t && (down || later_down)))) now) (or_assoc r one rest)
              (subst (λ (b : Bool). FilesMeanDisk g names (opened_as drivers ((r || one) || rest) b) now)
              (or_assoc c (t && down) (t && later_down) ∙ ap (λ b. c || b) (and-either t down later_down)) (later.means none));
        }

  opened-counted : {S : Type 0} (state : S → StorageState) (m : OpenMode) (files : List (ChainFile S)) (c : D × List D)
      → IsChainOf g names state m files c → IsCounted g c.0
  opened-counted state m [] c is = absurd is.layers
  opened-counted state m (file ∷ files) c is = is.layers.0.opened.counted

  -- Each flush in a list of calls over a chain that was opened over these files, also if earlier lists have driven it.
  pub each-flush : {S : Type 0} (state : S → StorageState) (m : OpenMode) (files : List (ChainFile S)) (since : Since)
      (list : List Call) (answers : List Answer) (opened : Opened D) (old : D × List D) (last : Moment D St)
      → ((d : D) → g.well_formed d → FindsByNames g names d) → IsChainOf g names state m files opened.drivers
      → IsOpenedSince g opened old → MayCommit g list old → Run g list answers (moment (chain_with_mapping old None) since) last
      → EachFlushMeans g names opened list answers (moment (chain_with_mapping old None) since) last
  each-flush state m files since list answers opened old last finds is same may run place call ends is_flush is_done on =
      let drivers = opened.drivers in
      flushes finds drivers is.places (below-shown state m files drivers is)
      (deeper-shown state m files drivers is)
      (opened-counted state m files drivers is) opened.repaired opened.committed list answers
      (moment (chain_with_mapping old None) since) last place call ends same may run is_flush is_done on
