use Rattle.std.proofs.Common.{rules, ◌≡◌, ◌∙◌, sym, subst}
use Rattle.uma_bucket.specs.Bucket.{items_of}
use Rattle.uma_bucket.specs.Finished.{AreFinished}
use Rattle.uma_bucket.specs.Loose.{loose_items}
use Rattle.uma_bucket.specs.Ripe.{ripe_bucket}
use Rattle.uma_domain.specs.declared.trims.TakenBucket.{TakenBucket}
use Rattle.uma_reclaim.specs.Given.{GivesBucket, bucket_len}
use Rattle.uma_reclaim.proofs.Taken.{same_len}
use Rattle.uma_reclaim.proofs.reclaim.give_bucket.Goals as goal

pub returns-in-Plain : goal.returns-in-Plain
returns-in-Plain g c = record {
  pass = search rules;
  told = search rules;
  count = search rules;
  given = subst (GivesBucket c.args.zone.now) (sym c.in-Plain.is) c.give.ensures.given;
}

pub returns-in-Ripe : goal.returns-in-Ripe
returns-in-Ripe g c =
    let items = items_of c.into_cached-bucket.result.0 in
    record {
      pass = search rules;
      told = search rules;
      count = subst (λ (b : TakenBucket _ _ _ _ _). c.give-in-Ripe.result ≡ bucket_len b) (sym c.in-Ripe.is) (c.give-in-Ripe.ensures.count ∙ same_len c.into_cached-bucket.result.0 (ripe_bucket c.in-Ripe.bucket) c.into_cached-bucket.ensures.tickets);
      given = subst (GivesBucket c.args.zone.now) (sym c.in-Ripe.is) (record {
        items = items;
        finished = subst (λ hooks. AreFinished (g.K.Hooks.leaves_dtor hooks) (loose_items (ripe_bucket c.in-Ripe.bucket)) items) c.hooks.ensures c.into_cached-bucket.ensures.finished;
        given = c.give-in-Ripe.ensures.given;
      });
    }
