use Rattle.std.proofs.Common.{rules, ◌≡◌, ◌<◌, [], ℕ, List, IfOk, sym, ap, ◌∙◌, subst}
use Rattle.uma_life.specs.declared.states.Cached.{Cached}
use Rattle.uma_bucket.specs.declared.bucket.Bucket.{Bucket}
use Rattle.uma_bucket.specs.Bucket.{items_of, tickets_of}
use Rattle.uma_bucket.specs.Home.{AreHome}
use Rattle.uma_keg.specs.Fetched.{FetchesInto}
use Rattle.uma_keg.specs.Keg.{places_in}
use Rattle.locked_keg.specs.declared.locked_keg.LockedKeg.{LockedKeg}
use Rattle.locked_keg.specs.LockedKeg.{keg_in}
use Rattle.locked_keg.specs.Rule.{HasDomainsBelow}
use Rattle.locked_keg.proofs.Answered.{answered_domains, answered_home}
use Rattle.locked_keg.proofs.Kept.{still_keeps, more_lists}
use Rattle.locked_keg.proofs.locked_keg.LockedKeg.fetch.Goals as goal

pub returns : goal.returns
returns g c =
    let old = c.args.self.now in
    let was = keg_in old in
    let is = c.fetch-answer.new.self in
    let keg = c.fetch-answer.ensures in
    let listed = c.list.ensures in
    let answer = c.fetch-answer.result in
    let before = items_of c.lend_empty.result.now in
    let after = items_of c.fetch-answer.new.into in
    let empty : before ≡ [] = ap items_of c.lend_empty.ensures.bucket ∙ c.requires.empty in
    let new : LockedKeg g.row.T.Denot g.row.K.Denot g.T.Body g.K.Hooks = record { keg = c.fetch-answer.new.self; fails = c.list.new.self } in
    let top = sym listed.lists.top in
    let Homes : _ → Bucket g.row.T.Denot g.T.Body → Type 0 = λ home bucket. AreHome home (tickets_of bucket) in
    let Fetched : Bucket g.row.T.Denot g.T.Body → Type 0 = λ bucket. IfOk answer (λ count. FetchesInto was c.args.hooks.now c.args.ask count [] (items_of bucket) is) in
    let From : List (Cached g.row.T.Denot g.T.Body) → Type 0 = λ items. IfOk answer (λ count. FetchesInto was c.args.hooks.now c.args.ask count items after is) in
    let domains : (bound : ℕ) → c.args.ask.domain < bound → HasDomainsBelow bound (places_in was) → HasDomainsBelow bound (places_in is) =
    λ bound own below. answered_domains was is c.args.hooks.now c.args.ask answer before after bound keg.fetched keg.refused own below in
    record {
      fetched = subst Fetched top (subst From empty keg.fetched);
      refused = keg.refused;
      given = search rules;
      names = keg.names;
      sums_full = keg.sums_full;
      counted = record {
        fetches = keg.fetches;
        other_fetches = keg.other_fetches;
        within = keg.within;
        out = keg.out;
        zones = keg.zones;
        outs = keg.outs;
        rights = keg.rights;
        limits = keg.limits;
        buried = keg.buried;
        same = keg.same;
      };
      listed = listed.causes;
      others = listed.others;
      tables = listed.tables;
      share = listed.share;
      fails = listed.fails;
      ledger = listed.ledger;
      none = search rules;
      top_room = search rules;
      home = λ home to. subst (Homes home) top (answered_home was is c.args.hooks.now c.args.ask answer before after home empty keg.fetched keg.none to);
      rest = search rules;
      domains = domains;
      keeps = λ key own kept. still_keeps key old new keg.same listed.tables
          (more_lists old new c.args.ask.zone answer keg.fetches keg.other_fetches listed.causes listed.others)
          (λ below. domains key.domains own below) kept;
    }
