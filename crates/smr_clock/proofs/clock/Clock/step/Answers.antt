use Rattle.std.proofs.Common.{rules}
use Rattle.smr_clock.specs.declared.host.HostAct.TheVariants.{Load, Store, Exchange, Add, Subtract}
use Rattle.smr_clock.proofs.HostAllowed.{host_allowed}
use Rattle.smr_clock.proofs.clock.Clock.step.Goals as goal

pub load-requires : goal.load-requires
load-requires g c =
    (search rules, search rules, host_allowed g.H.Host.holds c.args.self.now.setup _ _ _ _ _ c.args.act Load g.M.HostPlay.changes (search rules) c.in-Load.is c.requires.keeps)

pub swap-requires : goal.swap-requires
swap-requires g c =
    (search rules, search rules, host_allowed g.H.Host.holds c.args.self.now.setup _ _ _ _ _ c.args.act (Store c.in-Store.value) g.M.HostPlay.changes (search rules) c.in-Store.is c.requires.keeps)

pub compare_exchange-requires : goal.compare_exchange-requires
compare_exchange-requires g c = (
  search rules,
  search rules,
  host_allowed g.H.Host.holds c.args.self.now.setup _ _ _ _ _ c.args.act (Exchange c.in-Exchange.from c.in-Exchange.to) g.M.HostPlay.changes (search rules) c.in-Exchange.is c.requires.keeps,
)

pub fetch_add-requires : goal.fetch_add-requires
fetch_add-requires g c =
    (search rules, search rules, host_allowed g.H.Host.holds c.args.self.now.setup _ _ _ _ _ c.args.act (Add c.in-Add.by) g.M.HostPlay.changes (search rules) c.in-Add.is c.requires.keeps)

pub fetch_sub-requires : goal.fetch_sub-requires
fetch_sub-requires g c = (
  search rules,
  search rules,
  host_allowed g.H.Host.holds c.args.self.now.setup _ _ _ _ _ c.args.act (Subtract c.in-Subtract.by) g.M.HostPlay.changes (search rules) c.in-Subtract.is c.requires.keeps,
)
