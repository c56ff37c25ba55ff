use Rattle.std.proofs.Common.{◌≡◌, ◌+◌, ◌-◌, ◌∙◌, ap, sym, arith, set, get_or}
use Rattle.std.proofs.lemmas.List.{set-get_or, set-set}
use Rattle.qcow2_types.proofs.Numbers.BlockBytes.{bytes-only}
use Rattle.qcow2_metadata.proofs.laws.counters_have_one_form.Goals as goal

pub returns-clause-one : goal.returns-clause-one
returns-clause-one c order counters xs ys x y = bytes-only order counters xs x ∙ sym (bytes-only order counters ys y)

pub returns-clause-undone : goal.returns-clause-undone
returns-clause-undone c counters i lt =
    let back : get_or counters i 0 + 1 - 1 ≡ get_or counters i 0 = omega arith in
    ap (λ n. set (set counters i (get_or counters i 0 + 1)) i n) back ∙ (set-set counters i (get_or counters i 0 + 1) (get_or counters i 0) ∙ set-get_or counters i 0)
