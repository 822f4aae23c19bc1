use Rattle.std.proofs.Common.{rules, ◌∷◌, ◌++◌, [], ℕ, List, Option, None, arith, subst, sym}
use Rattle.std.specs.Prelude.{slice_set, vec_capacity}
use Rattle.uma_zcache.specs.Entries.{IsOutWith}
use Rattle.uma_zcache.specs.HomeList.{Lists}
use Rattle.uma_zcache.proofs.Counts.{read_out}
use Rattle.uma_zcache.proofs.HomeLists.{lists_home, has_room}
use Rattle.uma_zcache.proofs.locked.Entries.put_home.Goals as goal

pub push_reserved-requires : goal.push_reserved-requires
push_reserved-requires c =
    let e = c.self.inside in
    let at = read_out e.bases.items c.args.self.now c.args.no c.in-Some.base c.index.result.now (sym c.self.view_is) c.requires c.index.ensures c.in-Some.is in
    omega (arith, e.home.ok.0, has_room e.bases.items e.home.items (vec_capacity e.home) c.args.no c.in-Some.base c.self.invariant at)

pub invariant_of-self : goal.invariant_of-self
invariant_of-self c =
    let e = c.self.inside in
    let at = read_out e.bases.items c.args.self.now c.args.no c.in-Some.base c.index.result.now (sym c.self.view_is) c.requires c.index.ensures c.in-Some.is in
    let bases = slice_set e.bases.items c.args.no None in
    let home : Lists bases (e.home.items ++ c.args.no ∷ []) (vec_capacity e.home) = lists_home e.bases.items e.home.items (vec_capacity e.home) c.args.no c.in-Some.base c.self.invariant at in
    subst (λ (n : ℕ). Lists bases c.push_reserved.new.self.items n) (sym c.push_reserved.ensures.capacity) (subst (λ (l : List ℕ). Lists bases l (vec_capacity e.home)) (sym c.push_reserved.ensures.items) home)

pub returns : goal.returns
returns c =
    let e = c.self.inside in
    record {
      was = subst (λ (l : List (Option ℕ)). IsOutWith l c.args.no c.in-Some.base) c.self.view_is (read_out e.bases.items c.args.self.now c.args.no c.in-Some.base c.index.result.now (sym c.self.view_is) c.requires c.index.ensures c.in-Some.is);
      entry = search rules;
    }
