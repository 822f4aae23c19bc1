-- An empty shelf has the last of any buckets, of which none is left.
use Rattle.std.proofs.Common.{◌≡◌, List, [], ◌++◌, map, Result, Ok, Err, OnOk, OnErr, sym, ap, ◌∙◌}
use Rattle.std.proofs.lemmas.List.{append-nil}
use Rattle.uma_bucket.specs.declared.shelved.Shelved.{Shelved}
use Rattle.uma_zone.specs.Flushed.{bound_of, HasLastOf}

pub none_stays : {T H P : Type 0} {g h : _} (was is : List (Shelved T H P g h)) → is ≡ [] → HasLastOf was is
none_stays {T} {H} {P} {g} {h} was is none = record {
  gone = map bound_of was;
  split = sym (ap (λ (l : List (Shelved T H P g h)). map bound_of was ++ map bound_of l) none ∙ append-nil (map bound_of was));
}

-- what holds anyhow holds at an Err
pub at_err : {A E F : Type 0} (result : Result A E) → F → OnErr result F
at_err (Ok a) x = tt
at_err (Err e) x = x

-- what follows from what holds at an Ok
pub then_ok : {A E F G : Type 0} (result : Result A E) → (F → G) → OnOk result F → OnOk result G
then_ok (Ok a) then x = then x
then_ok (Err e) then x = tt

-- what follows from what holds at an Err
pub then_err : {A E F G : Type 0} (result : Result A E) → (F → G) → OnErr result F → OnErr result G
then_err (Ok a) then x = tt
then_err (Err e) then x = then x
