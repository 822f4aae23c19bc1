use Rattle.std.proofs.Common.{rules, ◌≡◌, ℕ, List, Option, Some, None, arith, subst, sym}
use Rattle.std.specs.Prelude.{slice_get, slice_set, vec_capacity}
use Rattle.std.proofs.lemmas.Option.{slice_get_within}
use Rattle.uma_zcache.specs.Entries.{IsHome}
use Rattle.uma_zcache.specs.HomeList.{Lists}
use Rattle.uma_zcache.proofs.HomeLists.{last_is_home, lists_out}
use Rattle.uma_zcache.proofs.locked.Entries.put_out.Goals as goal

pub index_mut-requires : goal.index_mut-requires
index_mut-requires c =
    let e = c.self.inside in
    let home : slice_get e.bases.items c.in-Some.no ≡ Some None = last_is_home e.bases.items e.home.items c.pop.new.self.items (vec_capacity e.home) c.in-Some.no c.self.invariant c.in-Some.ensures.items in
    omega (arith, slice_get_within e.bases.items c.in-Some.no None home, e.bases.ok.0)

pub invariant_of-self : goal.invariant_of-self
invariant_of-self c =
    let e = c.self.inside in
    let out = lists_out e.bases.items e.home.items c.pop.new.self.items (vec_capacity e.home) c.in-Some.no c.args.base c.self.invariant c.in-Some.ensures.items in
    subst (λ (n : ℕ). Lists (slice_set e.bases.items c.in-Some.no (Some c.args.base)) c.pop.new.self.items n) (sym c.in-Some.ensures.capacity) out

pub returns : goal.returns
returns c =
    let e = c.self.inside in
    record {
      home = subst (λ (l : List (Option ℕ)). IsHome l c.in-Some.no) c.self.view_is (last_is_home e.bases.items e.home.items c.pop.new.self.items (vec_capacity e.home) c.in-Some.no c.self.invariant c.in-Some.ensures.items);
      entry = search rules;
    }
