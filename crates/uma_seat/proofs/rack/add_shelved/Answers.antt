use Rattle.std.proofs.Common.{rules, ◌+◌, sym, subst}
use Rattle.uma_bucket.specs.Sums.{AreOfAtMost}
use Rattle.uma_bucket.specs.Shelved.{count_of, IsShelvedAt}
use Rattle.uma_seat.proofs.rack.add_shelved.Goals as goal

pub returns-in-Plain : goal.returns-in-Plain
returns-in-Plain g c = record {
  adds = search rules;
  few = λ count most. subst (λ s. AreOfAtMost (count + count_of s) c.add_to.new.sums) (sym c.in-Plain.is) (c.add_to.ensures.few count most);
  balance = λ home at before. c.add_to.ensures.balance home (subst (IsShelvedAt home) c.in-Plain.is at).1 before;
}

pub returns-in-Loose : goal.returns-in-Loose
returns-in-Loose g c = record {
  adds = search rules;
  few = λ count most. subst (λ s. AreOfAtMost (count + count_of s) c.add_to-in-Loose.new.sums) (sym c.in-Loose.is) (c.add_to-in-Loose.ensures.few count most);
  balance = λ home at before. c.add_to-in-Loose.ensures.balance home (subst (IsShelvedAt home) c.in-Loose.is at).1 before;
}

pub returns-in-Sealed : goal.returns-in-Sealed
returns-in-Sealed g c = record {
  adds = search rules;
  few = λ count most. subst (λ s. AreOfAtMost (count + count_of s) c.add_to-in-Sealed.new.sums) (sym c.in-Sealed.is) (c.add_to-in-Sealed.ensures.few count most);
  balance = λ home at before. c.add_to-in-Sealed.ensures.balance home (subst (IsShelvedAt home) c.in-Sealed.is at).1 before;
}
