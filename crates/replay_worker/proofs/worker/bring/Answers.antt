use Rattle.std.proofs.Common.{ℕ, inr, subst}
use Rattle.uma_keg.specs.declared.fetch.FetchRefused.{FetchRefused}
use Rattle.uma_keg.specs.declared.fetch.FetchRefused.TheVariants.{Refused}
use Rattle.uma_zone.specs.Prealloc.{RefusesPrealloc}
use Rattle.replay_worker.proofs.worker.bring.Goals as goal

pub returns-in-Err-Refused : goal.returns-in-Err-Refused
returns-in-Err-Refused g c =
    let zone = c.args.zone.now in
    let refusal = c.in-Err-Refused.field-0-0 in
    let why : RefusesPrealloc zone c.args.items c.domain.result (Refused refusal) =
    subst (λ (why : FetchRefused). RefusesPrealloc zone c.args.items c.domain.result why) c.in-Err-Refused.field-0-is c.in-Err-Refused.ensures.refused in
    inr (refusal, subst (λ (d : ℕ). RefusesPrealloc zone c.args.items d (Refused refusal)) c.domain.ensures why)
