use Rattle.std.proofs.Common.{◌≡◌, ◌+◌, Some, None, length, refl}
use Rattle.uma_life.specs.Life.{raw_life}
use Rattle.uma_keg.proofs.NewItemSums.{adds_vain, refuses_items}
use Rattle.uma_keg.proofs.slabs.SlabItems.bring.Goals as goal

pub returns-in-Err-clause-refused : goal.returns-in-Err-clause-refused
returns-in-Err-clause-refused g c =
    let made = c.in-Err.places in
    let is = c.in-Err.ensures.stopped in
    refuses_items c.args.per_slab (length made.items)
    (λ place code. (raw : _) × (g.T.Body.life raw ≡ raw_life (c.args.first + place)) × (g.K.Hooks.refuses_init c.args.hooks.now raw 0 ≡ Some code))
    (λ place. (raw : _) × (g.T.Body.life raw ≡ raw_life (c.args.first + place)) × (g.K.Hooks.refuses_init c.args.hooks.now raw 0 ≡ None))
    c.args.buried.now c.end_all.new.buried
    (record { within = is.fewer; earlier = is.accepted_earlier; buried = adds_vain _ _ made.items _ _ is.earlier refl c.end_all.ensures.sums })
    c.in-Err.refused is.refused
