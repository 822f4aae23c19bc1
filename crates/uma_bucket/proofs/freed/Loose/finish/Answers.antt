use Rattle.std.proofs.Common.{rules, ◌≡◌, ◌<◌, length, refl, arith}
use Rattle.uma_bucket.proofs.Rounds.{at_first, next_freed, one_place, all_places, all_cached, all_finished}
use Rattle.uma_bucket.proofs.freed.Loose.finish.Goals as goal

pub loop-at-init : goal.loop-at-init
loop-at-init g c = record { up_to = at_first (g.K.Hooks.leaves_dtor c.args.hooks.now) c.args.self.room.items; as_many = refl; capacity = refl; place = refl }

pub finish-requires : goal.finish-requires
finish-requires g c =
    let within : c.loop-at.at < length c.args.self.room.items = omega (arith, c.loop-at-test.true, c.len-at-end.ensures, c.args.self.room.ok.0) in
    next_freed (g.K.Hooks.leaves_dtor c.args.hooks.now) c.loop-at.at c.args.self.room.items c.loop-at.room.items c.index_mut.result.now c.loop-at.invariant.up_to within c.index_mut.ensures.value c.args.self.kept.alike

pub loop-at-preserved : goal.loop-at-preserved
loop-at-preserved g c =
    let at = c.loop-at.invariant in
    let within : c.loop-at.at < length c.args.self.room.items = omega (arith, c.loop-at-test.true, c.len-at-end.ensures, c.args.self.room.ok.0) in
    record {
      up_to = one_place (g.K.Hooks.leaves_dtor c.args.hooks.now) c.loop-at.at c.args.self.room.items c.loop-at.room.items _ c.index_mut.result.now c.finish.new.self at.up_to within c.index_mut.ensures.value refl c.finish.ensures;
      as_many = at.as_many;
      capacity = at.capacity;
      place = at.place;
    }

pub invariant_of-result : goal.invariant_of-result
invariant_of-result g c =
    let at = c.loop-at.invariant in
    let kept = c.args.self.kept in
    let whole : c.loop-at.at ≡ length c.args.self.room.items = omega (arith, c.loop-at-test.false, c.loop-at.auto.at-end, c.len-at-end.ensures, c.args.self.room.ok.0) in
    record {
      kept = record {
        least = kept.least;
        most = kept.most;
        within = omega (arith, at.as_many, kept.within);
        taken_whole = omega (arith, at.capacity, kept.taken_whole);
        alike = all_cached (g.K.Hooks.leaves_dtor c.args.hooks.now) c.args.self.room.items c.loop-at.room.items (all_places (g.K.Hooks.leaves_dtor c.args.hooks.now) c.loop-at.at _ _ at.up_to whole);
      };
    }

pub returns : goal.returns
returns g c =
    let whole : c.loop-at.at ≡ length c.args.self.room.items = omega (arith, c.loop-at-test.false, c.loop-at.auto.at-end, c.len-at-end.ensures, c.args.self.room.ok.0) in
    record {
      finished = all_finished (g.K.Hooks.leaves_dtor c.args.hooks.now) c.args.self.room.items c.loop-at.room.items (all_places (g.K.Hooks.leaves_dtor c.args.hooks.now) c.loop-at.at _ _ c.loop-at.invariant.up_to whole);
      size = search rules;
      place = search rules;
    }
