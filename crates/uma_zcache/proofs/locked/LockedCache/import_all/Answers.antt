use Rattle.std.proofs.Common.{◌≡◌, ◌<◌, ◌∷◌, [], length, length-append, List, ap, ◌∙◌, subst, sym, All, arith, rules}
use Rattle.std.proofs.lemmas.Result.{err_from_is_err_and}
use Rattle.uma_zcache.specs.declared.cache.Held.{Held}
use Rattle.uma_zcache.specs.Held.{held_book}
use Rattle.uma_zcache.specs.Imports.{HasEntry, ImportsAll}
use Rattle.uma_zcache.specs.Locked.{book_in}
use Rattle.uma_zcache.specs.Stack.{stack_items, stack_size}
use Rattle.uma_zcache.proofs.Rounds.{same_cache, nothing_counted, more_imports, more_entries, more_books, stops}
use Rattle.uma_zcache.proofs.locked.LockedCache.import_all.Goals as goal

pub loop-preserved : goal.loop-preserved
loop-preserved g c =
    let at = c.loop.invariant in
    let old = c.args.self.now in
    let mid = c.loop.self in
    let new = c.import_one.new.self in
    let items = stack_items c.loop.stack in
    let held = c.in_ok-held.held in
    let one = c.in_ok-held.ensures.imports in
    let put = sym c.push.ensures.items in
    record {
      imports = subst (λ (l : List Held). ImportsAll old l new) put (more_imports old mid new items held at.imports one);
      as_many = omega (arith, at.as_many, ap length c.push.ensures.items ∙ length-append items (held ∷ []));
      entries = subst (λ (l : List Held). All (HasEntry new) l) put (more_entries mid new items held at.entries one);
      books = subst (λ (l : List Held). All (λ h. held_book h ≡ book_in old) l) put (more_books old mid items held at.same one.book at.books);
      size = c.push.ensures.size ∙ at.size;
      sound = c.in_ok-held.ensures.sound;
      same = same_cache old mid new at.same one.same;
      nothing = nothing_counted old mid new at.nothing one.nothing;
    }

pub returns-in_err-held-clause-stops : goal.returns-in_err-held-clause-stops
returns-in_err-held-clause-stops g c =
    let passed = err_from_is_err_and c.from_residual.result c.from_residual.ensures.1 in
    let fewer : length (stack_items c.loop.stack) < stack_size c.args.stack.now = search rules in
    rw (passed.1, passed.2) (record {
      stops = stops c.args.self.now c.loop.self c.import_one.new.self (stack_items c.loop.stack) c.in_err-held.field-0.0 c.loop.invariant.imports c.in_err-held.ensures.refused;
      fewer = fewer;
    })
