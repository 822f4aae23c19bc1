use Rattle.std.proofs.Common.{◌≡◌, rules, sym, subst}
use Rattle.std.specs.List.{All}
use Rattle.std.proofs.lemmas.Result.{IfOk-weaker}
use Rattle.uma_life.specs.Live.{live_table}
use Rattle.uma_keg.specs.Census.{census_out}
use Rattle.uma_keg.specs.Keg.{HasZone}
use Rattle.locked_keg.specs.LockedKeg.{keg_in}
use Rattle.locked_keg.specs.Standing.{TellsKeg}
use Rattle.uma_zone.specs.Zone.{zone_rights}
use Rattle.uma_zone.proofs.Censused.{none_outside}
use Rattle.uma_zone.proofs.zone.Zone.census.Goals as goal

pub census-requires : goal.census-requires
census-requires g c = subst (λ (table : _). All (λ (item : _). live_table item ≡ table) c.args.lives) (sym c.lock-guard.ensures.numbers) c.requires

pub drop-guard-requires-2 : goal.drop-guard-requires-2
drop-guard-requires-2 g c = c.census.ensures.kept.keeps _ c.lock-guard.ensures.kept

pub returns : goal.returns
returns g c =
    let keg = keg_in c.lock-guard.result.value in
    record {
      table = search rules;
      cap = search rules;
      reserve = search rules;
      per_slab = search rules;
      lent = search rules;
      absent = IfOk-weaker c.census.result (λ (p : _). TellsKeg keg c.args.lives p.0 p.1) (λ (p : _). All (λ zone. census_out p.0 zone ≡ 0) (zone_rights c.args.self.now))
          (λ p tells. none_outside c.args.self.now.rights.items (HasZone keg) (census_out p.0) tells.no_zone (c.keeps_used_right.ensures c.if-keeps_used_right.false)) c.census.ensures.told;
      items = search rules;
      refused = search rules;
    }
