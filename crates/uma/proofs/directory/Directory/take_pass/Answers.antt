use Rattle.std.proofs.Common.{◌≡◌, rules}
use Rattle.smr_clock.specs.Belongs.{clock_id}
use Rattle.uma.proofs.NoneLeft.{none_left}
use Rattle.uma.proofs.directory.Directory.take_pass.Goals as goal

pub returns-clause-none : goal.returns-clause-none
returns-clause-none g c =
    let of : clock_id c.lock-guard.result.value.clock.value ≡ clock_id c.args.self.now.clock = search rules in
    none_left c.args.self.now.clock c.lock-guard.result.value c.take.result of c.take.ensures.none
