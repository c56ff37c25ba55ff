-- The body is empty. The borrow is opened, and closed at the longer list.
use Rattle.std.proofs.Common.{[], ◌∷◌, refl, w64}
use Rattle.std.proofs.raw_atomic.Walks.{proved}
use base.Logic.{id⊢}
use base.Fml.{ftrue, flft}
use mir.Syntax.{named}
use mir.Val.{vunit}
use types.Kit.{‵, ◌⊛◌, ◌$◌, ◌∵◌, !, qed, done, move, keep, use1, split, join, fsplit, fsplit3, feq_i, suffices, frame, group}
use types.Run.{enter, of_opd, unit_lit, returns}
use types.ByLocal.{alloc_all, pass_all, free_all, look_at, sets}
use denote.Builtin.{u8, u64}
use denote.Exit.{yes}
use denote.Plain.{uint_vals, uint_Tells}
use denote.RattleType.{owns}
use denote.Ref.{mut_vals, mut_Tells}
use denote.Signature.{plain, types_at, shr_slice_of}
use denote.Slice.{shr_slice_vals, shr_slice_Tells}
use denote.Steps.{nothing, opens, closes}
use denote.Triple.Walked.{Stays, walk_of, says, stay_dropped, Goes-dropped, stay_ref, Goes-ref, ends_at}
use Rattle.host_file.specs.Notes.{event_of}
use Rattle.host_file.specs.declared.record.Record.{Record}
use Rattle.host_file.specs.contracts.record.Record.{the_row as R}
use Rattle.host_file.specs.contracts.record.Record.note as f
use Rattle.host_file.proofs.record.Record.note.Statement.{statement}
use Rattle.host_file.proofs.record.Record.note.Code as code

abbrev stayed : Stays f.ended.signature.params f.ended.kept
stayed = (stay_ref (0 ∷ []) tt (plain (λ _. R)), (stay_dropped _ yes, (stay_dropped _ yes, (stay_dropped _ yes, (stay_dropped _ yes, tt)))))

pub note_spec : {M : Type 1} → statement M
note_spec 𝓤 𝓛 𝓜 𝓡 wired =
    let c = f.clauses 𝓛 𝓜.mem 𝓡.returns in let W = walk_of 𝓛 f.ended stayed c in
    let number = Goes-dropped 𝓛 2 (plain (λ _. u64)) yes (λ κs x w. refl) in
    let bytes = Goes-dropped 𝓛 2 (shr_slice_of (1 ∷ []) tt (plain (λ _. u8))) yes (λ κs x w. refl) in
    proved 𝓛 f.ended stayed c 𝓜 𝓡 (Goes-ref 𝓛 2 0 tt (plain (λ _. R)), (number, (number, (number, (bytes, tt)))))
    f.Key.name code.function (code.unfolded 𝓤 𝓛.H 𝓜 𝓡 wired)
    (λ κs. (mut_vals, (uint_vals w64, (uint_vals w64, (uint_vals w64, (shr_slice_vals, tt))))))
    (λ κs. (mut_Tells (named 0) κs.0 R, (uint_Tells w64, (uint_Tells w64, (uint_Tells w64, (shr_slice_Tells (named 1) κs.1.0 u8, tt))))))
    (λ κs qs bounds a _ are.
    let b = a.0.ref_ptr.0 in let o = a.0.ref_ptr.1 in let h = a.0.now in
    let kind = a.1.0 in let offset = a.1.1.0 in let size = a.1.1.1.0 in let bytes = a.1.1.1.1.0 in
    let after : Record = record h { events = event_of kind offset size bytes.now ∷ h.events } in
    let y : W.Ghost = ((κs, qs, bounds, a, (mut_vals a.0, (uint_vals w64 kind, (uint_vals w64 offset, (uint_vals w64 size, (shr_slice_vals bytes, tt)))))), tt) in
    qed 𝓛 (((‵ (flft κs.0 qs.0) ⊛ (‵ (flft κs.1.0 qs.1.0) ⊛ ‵ ftrue)) ⊛ ‵ (owns (types_at f.signature.params κs) a y.0.4)) ∷ ‵ ftrue ∷ []) ∵
    split ! $ split ! $ move ! (2 ∷ []) $ fsplit ! $ keep ! (0 ∷ 2 ∷ 3 ∷ []) $
    -- [self; its token; the other token]
    enter ! _ _ _ _ _ $ alloc_all ! (λ l. pass_all ! refl ((tt, tt), ((tt, record { fits = are.1.0.1 }), ((tt, record { fits = are.1.1.0.1 }), ((tt, record { fits = are.1.1.1.0.1 }), ((tt, (tt, (record { fits = are.1.1.1.1.0.0.1.0 }, tt))), tt))))) $
    fsplit3 ! $ move ! (1 ∷ 2 ∷ 3 ∷ []) $ opens ! tt R {h = h} b o (λ us.
    -- [the value; what it owns; three entries of the borrow; the first part of self; the other token]
    sets ! (of_opd ! (unit_lit !)) refl (tt, tt) $
    move ! (1 ∷ []) $ use1 𝓛 (‵ (R.own_val after us)) (id⊢ 𝓤 _) $ move ! (1 ∷ 0 ∷ []) $ closes ! tt R after us b o $
    -- [two parts of self; its token; the first part; the other token]
    returns ! (look_at ! 0 refl) $ free_all ! refl $ move ! (3 ∷ []) $
    suffices ! _ (ends_at 𝓛 f.ended stayed c y vunit tt (after, (tt, (tt, (tt, (tt, tt))))) (tt, (tt, (tt, (tt, (tt, tt)))))) $ says ! refl $
    group ! 3 $ move ! (1 ∷ 2 ∷ []) $ join ! $
    nothing ! $ nothing ! $ join ! $ nothing ! $ join ! $ nothing ! $ join ! $ nothing ! $ join ! $
    move ! (2 ∷ 0 ∷ []) $ join ! $ move ! (1 ∷ 0 ∷ []) $ frame ! $ frame ! $ feq_i ! _ (vunit ∷ []) _ refl $ done !)))
