-- The value has no bytes, and its list is empty.
use Rattle.std.proofs.Common.{[], ◌∷◌, refl}
use Rattle.std.proofs.raw_atomic.Walks.{proved}
use base.Fml.{ftrue}
use mir.Val.{Val, vstruct, vcons, vnil}
use types.Kit.{‵, raw, ◌$◌, ◌∵◌, !, qed, done, keep, join, suffices}
use types.Run.{enter, no_more, and_then, returns}
use types.Part.{agg}
use types.ByLocal.{alloc_all, pass_all, free_all, look_at, get, sets}
use denote.Shadow.{pure_i}
use denote.Steps.{nothing}
use denote.Triple.Entry.{on_entry}
use denote.Triple.Walked.{walk_of, says, ends_at}
use Rattle.host_file.specs.declared.record.Record.{Record}
use Rattle.host_file.specs.contracts.record.Record.{the_row as R}
use Rattle.host_file.specs.contracts.record.Record.new as f
use Rattle.host_file.proofs.record.Record.new.Statement.{statement}
use Rattle.host_file.proofs.record.Record.new.Code as code

abbrev marker : Val
marker = vstruct vnil

abbrev value : Val
value = vstruct (vcons marker vnil)

abbrev empty : Record
empty = record { marker = record {}; events = [] }

pub new_spec : {M : Type 1} → statement M
new_spec 𝓤 𝓛 𝓜 𝓡 wired =
    let c = f.clauses 𝓛 𝓜.mem 𝓡.returns in let W = walk_of 𝓛 f.ended tt c in
    proved 𝓛 f.ended tt c 𝓜 𝓡 tt f.Key.name code.function (code.unfolded 𝓤 𝓛.H 𝓜 𝓡 wired)
    (λ κs. tt) (λ κs. tt) (λ κs qs bounds a _ are.
    let y : W.Ghost = ((κs, qs, bounds, a, tt), tt) in
    qed 𝓛 (raw (on_entry 𝓛 f.signature κs qs a y.0.4) ∷ ‵ ftrue ∷ []) ∵ keep ! [] $
    enter ! _ _ _ _ _ $ alloc_all ! (λ l. pass_all ! refl tt $
    sets ! (agg ! (no_more !)) refl (tt, tt) $
    sets ! (agg ! (and_then ! (get ! refl) (no_more !))) refl (tt, (tt, tt)) $
    returns ! (look_at ! 0 refl) $ free_all ! refl $
    pure_i ! (R.own_val empty (value ∷ [])) ((λ vss. (tt, ((λ uss. (tt, tt)), tt))), tt) (((marker ∷ [], tt), (refl, ((tt, (refl, tt)), tt))), tt) $
    suffices ! _ (ends_at 𝓛 f.ended tt c y value empty tt tt) $ says ! refl $
    nothing ! $ join ! $ nothing ! $ done !))
