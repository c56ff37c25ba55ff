use Rattle.std.proofs.Common.{◌≡◌, ◌∷◌, arith, length, length-take}
use Rattle.std.proofs.lemmas.Grind.{common_steps}
use Rattle.std.specs.Prelude.{false}
use Rattle.imago_access.specs.Running.{chain_disk}
use Rattle.qimg_chain.specs.contracts.chain.image_driver.ImageDriverDriverModel.TheImpl as image_seen
use Rattle.qimg_chain.proofs.Failing.{fails}
use Rattle.qimg_chain.proofs.PlainlyRead.{not_read, read_plainly, seen, usable}
use Rattle.qimg_chain.proofs.chain.plain_reads.plain_read.Goals as goal

pub read_in_order-requires-clause-coherent : goal.read_in_order-requires-clause-coherent
read_in_order-requires-clause-coherent g c =
    seen (image_seen.ghosts g.row.S g.S.Storage g.S.Storage-dict g.S.Destruct-dict) g.S.Storage.state false 0 c.args.files.items (c.in_ok-chain.chain.0 ∷ c.in_ok-chain.chain.1) c.in_ok-chain.ensures.layers

pub read_in_order-requires-clause-usable : goal.read_in_order-requires-clause-usable
read_in_order-requires-clause-usable g c =
    usable (image_seen.ghosts g.row.S g.S.Storage g.S.Storage-dict g.S.Destruct-dict) g.S.Storage.state false 0 c.args.files.items (c.in_ok-chain.chain.0 ∷ c.in_ok-chain.chain.1) c.in_ok-chain.ensures.layers

pub returns-clause-ok : goal.returns-clause-ok
returns-clause-ok g c =
    let d = image_seen.ghosts g.row.S g.S.Storage g.S.Storage-dict g.S.Destruct-dict in
    let opened = c.in_ok-chain.ensures in
    let inside = c.min-inside.result in
    let long : length c.read_in_order.new.buf ≡ inside = omega (arith, c.read_in_order.auto.buf, length-take inside c.blank.new.buf, c.blank.auto.buf, c.min-inside.ensures) in
    read_plainly g.S.Storage.state c.args.files.items c.args.offset c.read_in_order.result (chain_disk d.layer c.in_ok-chain.chain) inside (length c.args.buf.now) c.read_in_order.new.buf _
    opened.formed (grind (arith, common_steps)) (omega (arith, c.blank.auto.buf)) opened.means
    (omega (arith, c.min-inside.ensures, c.saturating_sub.ensures, c.size.ensures, opened.means.size))
    long (λ i lt. grind (arith, common_steps, long)) (λ i le. grind (arith, common_steps, c.blank.ensures i)) c.read_in_order.ensures.ok

pub returns-clause-err : goal.returns-clause-err
returns-clause-err g c =
    let d = image_seen.ghosts g.row.S g.S.Storage g.S.Storage-dict g.S.Destruct-dict in
    let opened = c.in_ok-chain.ensures in
    let inside = c.min-inside.result in
    not_read g.S.Storage.state c.args.files.items c.args.offset d (fails g.row.S g.S.Storage g.S.Storage-dict g.S.Destruct-dict) c.read_in_order.result (chain_disk d.layer c.in_ok-chain.chain) _ (length c.args.buf.now)
    opened.formed (grind (arith, common_steps)) opened.means
    (omega (arith, length-take inside c.blank.new.buf, c.blank.auto.buf, c.min-inside.ensures, c.saturating_sub.ensures, c.size.ensures, opened.means.size))
    c.read_in_order.ensures.err
