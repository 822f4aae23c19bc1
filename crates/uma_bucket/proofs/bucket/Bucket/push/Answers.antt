use Rattle.std.proofs.Common.{rules, ◌≡◌, ◌∷◌, ◌++◌, [], length, Option, not, ap, ◌∙◌, arith}
use Rattle.std.specs.List.{filter_map, cons_option}
use Rattle.uma_life.specs.declared.states.Cached.{Cached}
use Rattle.std.proofs.lemmas.List.Elements.{filter_map-append}
use Rattle.uma_life.specs.Cached.{cached_ticket}
use Rattle.uma_bucket.specs.Room.{is_cached, cached_in}
use Rattle.uma_bucket.proofs.Homes.{home_push}
use Rattle.uma_bucket.proofs.Rooms.{count, cached_tests, all_push}
use Rattle.uma_bucket.proofs.bucket.Bucket.push.Goals as goal

pub push_reserved-requires : goal.push_reserved-requires
push_reserved-requires g c =
    let items = c.args.self.now.room.items in
    let kept = c.args.self.now.kept in
    let counted : length (filter_map cached_in items) ≡ length items = count is_cached cached_in cached_tests items kept.alike in
    omega (arith, c.args.self.now.room.ok.0, kept.taken_whole, c.requires, counted)

pub invariant_of-self : goal.invariant_of-self
invariant_of-self g c =
    let items = c.args.self.now.room.items in
    let kept = c.args.self.now.kept in
    let counted : length (filter_map cached_in items) ≡ length items = count is_cached cached_in cached_tests items kept.alike in
    record {
      kept = record {
        least = kept.least;
        most = kept.most;
        within = omega (arith, c.args.self.now.room.ok.0, c.requires, counted, c.push_reserved.ensures.len);
        taken_whole = omega (arith, kept.taken_whole, c.push_reserved.ensures.capacity);
        alike = rw c.push_reserved.ensures.items (all_push is_cached items c.of_cached.result kept.alike (ap not c.of_cached.ensures.state));
      };
    }

pub returns : goal.returns
returns g c =
    let items : filter_map cached_in c.push_reserved.new.self.items ≡ filter_map cached_in c.args.self.now.room.items ++ c.args.item ∷ [] =
    ap (filter_map cached_in) c.push_reserved.ensures.items ∙ filter_map-append cached_in c.args.self.now.room.items (c.of_cached.result ∷ []) ∙ ap (λ (o : Option (Cached _ _)). filter_map cached_in c.args.self.now.room.items ++ cons_option o []) c.of_cached.ensures.same in
    record {
      items = items;
      home = λ home before here. home_push home cached_ticket _ _ c.args.item items before here;
      size = search rules;
      place = search rules;
    }
