use Rattle.std.proofs.lemmas.Bool.Decides.{nat_tests}
use Rattle.std.proofs.Common.{◌≡◌, ◌≤◌, ◌∷◌, ◌++◌, ◌∙◌, [], List, ap, arith, length, sym}
use Rattle.std.specs.Prelude.{reverse}
use Rattle.std.proofs.lemmas.List.{reverse-append, reverse-reverse}
use Rattle.qimg_chain.specs.Chains.{mode}
use Rattle.qimg_chain.proofs.ImageKinds.{keeps_so, none_held, sound_so}
use Rattle.qimg_chain.proofs.Opened.{formed, free, on_ok, on_ok_both, ready, stands, has_no_dirty_data}
use Rattle.qimg_chain.proofs.Refusing.{first_of, on_err}
use Rattle.qimg_chain.proofs.chain.opening.open_chain.Goals as goal

begins : {A : Type 0} (xs ys zs : List A) (x : A) → ys ≡ reverse xs → ys ≡ zs ++ (x ∷ []) → xs ≡ x ∷ reverse zs
begins xs ys zs x turned ends = sym (reverse-reverse xs) ∙ ap reverse (sym turned ∙ ends) ∙ reverse-append zs (x ∷ [])

pub returns-in-Some-clause-layers : goal.returns-in-Some-clause-layers
returns-in-Some-clause-layers g c =
    rw (begins c.args.files.items c.reverse.new.self.items c.pop.new.self.items c.in-Some.top c.reverse.ensures.items c.in-Some.ensures.items) c.open_over.ensures.layers

pub returns-in-Some-clause-free : goal.returns-in-Some-clause-free
returns-in-Some-clause-free g c =
    on_ok (free _ g.S.Storage.state (mode c.args.writable c.args.number) c.in-Some.top (reverse c.pop.new.self.items))
    c.open_over.result c.open_over.ensures.layers

pub returns-in-Some-clause-has_no_dirty_data : goal.returns-in-Some-clause-has_no_dirty_data
returns-in-Some-clause-has_no_dirty_data g c =
    on_ok (has_no_dirty_data _ g.S.Storage.state (mode c.args.writable c.args.number) c.in-Some.top (reverse c.pop.new.self.items))
    c.open_over.result c.open_over.ensures.layers

pub returns-in-Some-clause-ready : goal.returns-in-Some-clause-ready
returns-in-Some-clause-ready g c =
    let same = begins c.args.files.items c.reverse.new.self.items c.pop.new.self.items c.in-Some.top c.reverse.ensures.items c.in-Some.ensures.items in
    let few : length c.args.files.items ≤ 64 = grind (arith, nat_tests, c.if-len-gt-MOST_LAYERS.false, c.len.ensures) in
    rw same (on_ok_both (ready _ g.S.Storage.state (none_held g.row.S g.S.Storage g.S.Storage-dict g.S.Destruct-dict)
    (keeps_so g.row.S g.S.Storage g.S.Storage-dict g.S.Destruct-dict) (sound_so g.row.S g.S.Storage g.S.Storage-dict g.S.Destruct-dict)
    (mode c.args.writable c.args.number) c.in-Some.top (reverse c.pop.new.self.items) (rw same at few))
    c.open_over.result c.open_over.ensures.layers c.open_over.ensures.places)

pub returns-in-Some-clause-stands : goal.returns-in-Some-clause-stands
returns-in-Some-clause-stands g c =
    rw (begins c.args.files.items c.reverse.new.self.items c.pop.new.self.items c.in-Some.top c.reverse.ensures.items c.in-Some.ensures.items)
    (on_ok (stands _ g.S.Storage.state (mode c.args.writable c.args.number) c.in-Some.top (reverse c.pop.new.self.items))
    c.open_over.result c.open_over.ensures.layers)

pub returns-in-Some-clause-formed : goal.returns-in-Some-clause-formed
returns-in-Some-clause-formed g c =
    let same = begins c.args.files.items c.reverse.new.self.items c.pop.new.self.items c.in-Some.top c.reverse.ensures.items c.in-Some.ensures.items in
    let few : length c.args.files.items ≤ 64 = grind (arith, nat_tests, c.if-len-gt-MOST_LAYERS.false, c.len.ensures) in
    rw same (on_ok_both (formed _ g.S.Storage.state c.args.writable c.args.number c.in-Some.top (reverse c.pop.new.self.items) (rw same at few))
    c.open_over.result c.open_over.ensures.layers c.open_over.ensures.places)

pub returns-in-Some-clause-err : goal.returns-in-Some-clause-err
returns-in-Some-clause-err g c =
    let same = begins c.args.files.items c.reverse.new.self.items c.pop.new.self.items c.in-Some.top c.reverse.ensures.items c.in-Some.ensures.items in
    let few : length c.args.files.items ≤ 64 = grind (arith, nat_tests, c.if-len-gt-MOST_LAYERS.false, c.len.ensures) in
    rw same (on_err (first_of g.S.Storage.state c.args.writable c.in-Some.top (reverse c.pop.new.self.items) (rw same at few))
    c.open_over.result c.open_over.ensures.err)

pub returns-in-Some-clause-means : goal.returns-in-Some-clause-means
returns-in-Some-clause-means g c =
    rw (begins c.args.files.items c.reverse.new.self.items c.pop.new.self.items c.in-Some.top c.reverse.ensures.items c.in-Some.ensures.items) c.open_over.ensures.means
