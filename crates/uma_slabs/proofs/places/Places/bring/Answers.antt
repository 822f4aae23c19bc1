use Rattle.std.proofs.Common.{rules, ◌≡◌, ℕ, ◌+◌, Option, arith, refl, ap, subst, ◌∙◌}
use Rattle.zone_stats.specs.declared.refusal.Refusal.TheVariants.{Full}
use Rattle.std.specs.Option.{IfNone}
use Rattle.uma_slabs.specs.Kept.{keg_of, places_of}
use Rattle.uma_slabs.specs.Places.{slab_count}
use Rattle.uma_slabs.specs.Room.{room_at, is_absent, NonePassFrom}
use Rattle.uma_slabs.proofs.Bringing.{BringsIn}
use Rattle.uma_slabs.proofs.RoomBrings.{IsBrought, brought_at, brought_room, brings_room, IsKept-brought, slab_count-full}
use Rattle.uma_slabs.proofs.places.Places.bring.Goals as goal

-- as many slabs are in as may be, where no room was found
full : (c : goal.In_default) → slab_count (places_of c.self.inside) ≡ c.self.inside.cap
full c =
    let At : Option ℕ → Type 0 = λ o. IfNone o (NonePassFrom is_absent c.self.inside.rooms 0) in
    slab_count-full c.self.inside c.self.invariant (subst At c.in_default.is c.first_absent.ensures.none)

pub returns-in_default : goal.returns-in_default
returns-in_default c =
    record {
      brings = search rules;
      counts = search rules;
      outs = search rules;
      room =
          let all = full c in
          rw (← c.self.view_is) (λ e. absurd (cc), λ less. absurd (omega (arith, all, less)));
      full =
          rw (← c.self.view_is) (ap (λ (slabs : ℕ). Full slabs c.self.inside.made) (c.self.invariant.slabs ∙ full c), full c);
      unchanged = search rules;
      sound = search rules;
    }

brought : (c : goal.After-self-3-1) → IsBrought c.self.inside c.args.domain c.in-Some.index (room_at c.self.inside.rooms c.in-Some.index) (brought_room c.args.domain (room_at c.self.inside.rooms c.in-Some.index))
brought c = brought_at c.self.inside c.args.domain c.in-Some.index c.in-Some.ensures.first

pub invariant_of-self : goal.invariant_of-self
invariant_of-self c = rw c.bring.ensures (IsKept-brought c.self.inside c.self.invariant c.args.domain c.in-Some.index (room_at c.self.inside.rooms c.in-Some.index) (brought_room c.args.domain (room_at c.self.inside.rooms c.in-Some.index)) (brought c))

-- the change of the fields, as a change of the keg
in_keg : (c : goal.After-self-3-1) → BringsIn c.args.self.now c.args.domain c.in-Some.index (keg_of c.self.inside.per_slab c.self.inside.cap (c.self.inside.made + 1) c.bring.new.self)
in_keg c =
    let done = brings_room c.self.inside c.self.invariant c.args.domain c.in-Some.index (room_at c.self.inside.rooms c.in-Some.index) (brought_room c.args.domain (room_at c.self.inside.rooms c.in-Some.index)) (brought c) in
    rw (← c.self.view_is, c.bring.ensures) done

pub returns : goal.returns
returns c =
    record {
      brings = (in_keg c).brings;
      counts = (in_keg c).counts;
      outs = (in_keg c).outs;
      room = (λ _. (in_keg c).room, λ _. refl);
      full = search rules;
      unchanged = search rules;
      sound = (in_keg c).sound;
    }
