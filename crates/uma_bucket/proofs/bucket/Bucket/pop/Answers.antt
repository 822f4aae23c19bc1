use Rattle.std.proofs.Common.{rules, refl, ◌∙◌, Option, ◌≡◌, ◌∷◌, ◌++◌, [], length, ap, arith, length-append}
use Rattle.std.specs.List.{filter_map, cons_option}
use Rattle.uma_life.specs.declared.states.Cached.{Cached}
use Rattle.uma_life.specs.Cached.{cached_ticket}
use Rattle.uma_bucket.specs.Room.{is_cached, cached_in}
use Rattle.uma_bucket.proofs.Homes.{home_pop}
use Rattle.uma_bucket.proofs.Rooms.{part_pop, count, cached_tests, isnt_live, last_passes}
use Rattle.uma_bucket.proofs.bucket.Bucket.pop.Goals as goal

pub into_cached-requires : goal.into_cached-requires
into_cached-requires g c = isnt_live _ (last_passes is_cached c.args.self.now.room.items c.pop.new.self.items _ c.in_ok-item.ensures.items c.args.self.now.kept.alike)

pub returns : goal.returns
returns g c =
    let old = c.args.self.now in
    let popped : filter_map cached_in old.room.items ≡ filter_map cached_in c.pop.new.self.items ++ c.into_cached.result ∷ [] =
    part_pop cached_in _ _ _ _ c.in_ok-item.ensures.items refl ∙ ap (λ (o : Option (Cached _ _)). filter_map cached_in c.pop.new.self.items ++ cons_option o []) c.into_cached.ensures.same in
    let counted : length (filter_map cached_in old.room.items) ≡ length old.room.items = count is_cached cached_in cached_tests _ old.kept.alike in
    record {
      items = popped;
      last = popped;
      none = search rules;
      unchanged = search rules;
      home = λ home before. home_pop home cached_ticket _ _ c.into_cached.result popped before;
      room = omega (arith, old.kept.within, old.room.ok.0, counted, simp length-append at (ap length popped));
      size = search rules;
    }
