use Rattle.std.proofs.Common.{◌≡◌, ◌∷◌, [], length, length-append, Some, ap, ◌∙◌, arith}
use Rattle.std.proofs.lemmas.List.Elements.{All-pop}
use Rattle.uma_zcache.specs.Held.{held_book}
use Rattle.uma_zcache.specs.Locked.{book_in}
use Rattle.uma_zcache.specs.Stack.{stack_items}
use Rattle.uma_zcache.proofs.Rounds.{same_cache, releases_more}
use Rattle.uma_zcache.proofs.locked.LockedCache.release_all.Goals as goal

pub loop-preserved : goal.loop-preserved
loop-preserved g c =
    let at = c.loop.invariant in
    let old = c.args.self.now in
    let mid = c.loop.self in
    let new = c.release.new.self in
    let left = stack_items c.loop.stack in
    let rest = stack_items c.pop.new.self in
    let held = c.in-Some.held in
    let last = c.in-Some.ensures.last in
    let one = c.release.ensures.releases in
    let popped = All-pop (λ h. held_book h ≡ book_in old) left rest (Some held) last at.books in
    record {
      as_many = omega (arith, at.as_many, ap length last ∙ length-append rest (held ∷ []));
      releases = releases_more old mid new (stack_items c.args.stack.now) left rest held at.releases last one;
      books = popped.0;
      size = c.pop.ensures.size ∙ at.size;
      sound = c.release.ensures.sound;
      same = same_cache old mid new at.same one.same;
    }
