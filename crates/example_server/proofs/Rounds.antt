-- What a worker did, one run behind another, and what workers did in rounds.
use Rattle.std.proofs.Common.{◌≡◌, ℕ, zero, suc, ◌+◌, ◌<◌, List, [], ◌∷◌, ◌++◌, refl, sym, ap, ◌∙◌, subst, arith, length, take, get_or}
use Rattle.std.proofs.lemmas.List.{append-nil, append_assoc, map-append, take-append-le, take_all, take_more}
use Rattle.std.proofs.lemmas.List.Elements.{All-weaker}
use Rattle.std.specs.Prelude.{All}
use Rattle.example_server.specs.declared.desk.Done.{Done}
use Rattle.example_server.specs.declared.desk.Desk.{Desk}
use Rattle.example_server.specs.declared.desk.Request.{Request}
use Rattle.example_server.specs.declared.round.Round.{Round}
use Rattle.example_server.specs.declared.staff.Shared.{Shared}
use Rattle.example_server.specs.declared.worker.Worker.{Worker}
use Rattle.example_server.specs.Answers.{Ends, Stays}
use Rattle.example_server.specs.Serving.{AllServed, AllWorked, AsksEach, AsksNoOther, HasServed, Ran, Works, asked_in, asked_of, requests_in}
use Rattle.example_server.specs.Staff.{BeginsAt, IsAt}

stay_same : (desk : Desk) → Stays desk desk
stay_same desk = record { pool = refl; directory = refl; still = λ r i. i }

stay_both : (old mid new : Desk) → Stays old mid → Stays mid new → Stays old new
stay_both old mid new first more = record { pool = more.pool ∙ first.pool; directory = more.directory ∙ first.directory; still = λ r i. more.still r (first.still r i) }

ran_both : (old mid new : Desk) (front back : List Done) → Ran old front mid → Ran mid back new → Ran old (front ++ back) new
ran_both old mid new [] back first more = subst (λ d. Ran d back new) first more
ran_both old mid new (done ∷ front) back first more = (first.0, first.1, ran_both first.0 mid new front back first.2 more)

served_both : (old mid new : Worker) (front back : List Request) → HasServed front old mid → HasServed back mid new → HasServed (front ++ back) old new
served_both old mid new front back first more =
    record {
      done = first.done ++ more.done;
      asked = map-append (λ (done : Done). done.request) first.done more.done ∙ ap (λ l. l ++ requests_in more.done) first.asked ∙ ap (λ l. front ++ l) more.asked;
      log = more.log ∙ ap (λ l. l ++ more.done) first.log ∙ append_assoc old.log.items first.done more.done;
      ran = ran_both old.desk mid.desk new.desk first.done more.done first.ran more.ran;
    }

pub works_none : (worker : Worker) → Works [] worker worker
works_none worker = record { stays = stay_same worker.desk; served = λ well. (well, record { done = []; asked = refl; log = sym (append-nil worker.log.items); ran = refl }) }

pub works_both : (old mid new : Worker) (front back : List Request) → Works front old mid → Works back mid new → Works (front ++ back) old new
works_both old mid new front back first more =
    record { stays = stay_both old.desk mid.desk new.desk first.stays more.stays; served = λ well. (let last = more.served well in let before = first.served last.0 in (before.0, served_both old mid new front back before.1 last.1)) }

pub works_more : (requests : List Request) (i : ℕ) (d : Request) (old mid new : Worker) → i < length requests → Works (take i requests) old mid → Works (get_or requests i d ∷ []) mid new → Works (take (i + 1) requests) old new
works_more requests i d old mid new below first more =
    subst (λ l. Works l old new) (sym (take_more requests i d below)) (works_both old mid new (take i requests) (get_or requests i d ∷ []) first more)

-- it serves one request more
pub one_more : (old new : Worker) (done : Done) → new.log.items ≡ old.log.items ++ done ∷ [] → new.logs ≡ old.logs → Stays old.desk new.desk → Ends done.request done.answer old.desk new.desk → Works (done.request ∷ []) old new
one_more old new done log same stays ends = record { stays = stays; served = λ has. (sym same ∙ has, record { done = done ∷ []; asked = refl; log = log; ran = (new.desk, ends, refl) }) }

asked_more : (rounds : List Round) (k n : ℕ) (d : Round) → k < length rounds → asked_in (take (suc k) rounds) n ≡ asked_in (take k rounds) n ++ asked_of (get_or rounds k d) n
asked_more [] k n d below = absurd (omega arith)
asked_more (r ∷ rounds) zero n d below = append-nil (asked_of r n)
asked_more (r ∷ rounds) (suc k) n d below =
    ap (λ l. asked_of r n ++ l) (asked_more rounds k n d (omega arith)) ∙ sym (append_assoc (asked_of r n) (asked_in (take k rounds) n) (asked_of (get_or rounds k d) n))

pub serve_more : (rounds : List Round) (k : ℕ) (e : Round) (old mid new : List Worker) → k < length rounds → length mid ≡ length old → AllServed (take k rounds) old mid → AllWorked (get_or rounds k e) mid new
    → AllServed (take (k + 1) rounds) old new
serve_more rounds k e old mid new below size served worked n d in' =
    let on : k + 1 ≡ suc k = omega arith in
    let P : List Request → Type 0 = λ l. Works l (get_or old n d) (get_or new n d) in
    let both : P (asked_in (take k rounds) n ++ asked_of (get_or rounds k e) n) =
    works_both (get_or old n d) (get_or mid n d) (get_or new n d) (asked_in (take k rounds) n) (asked_of (get_or rounds k e) n) (served n d in') (worked n d (omega (arith, size, in')))
    in
    subst (λ j. P (asked_in (take j rounds) n)) (sym on) (subst P (sym (asked_more rounds k n e below)) both)

-- where each round asks each of the workers and nobody else, there is a worker for each list
pub no_list_left : (rounds : List Round) (count asked : ℕ) → count ≡ asked → All (AsksEach asked) rounds → All (AsksNoOther count) rounds
no_list_left rounds count asked is each = All-weaker (AsksEach asked) (AsksNoOther count) (λ (round : Round) (e : length round.lists.items ≡ asked). omega (arith, e, is)) rounds each

-- what was lent out of a list is all of it again
pub lent_back : (n : ℕ) (now rest : List Worker) → length now ≡ n → take n (now ++ rest) ≡ now
lent_back n now rest size = take-append-le n now rest (omega (arith, size)) ∙ take_all n now (omega (arith, size))

-- workers that began at a pool and a directory are there still
all_at : (shared : Shared) (rounds : List Round) (old new : List Worker) → length new ≡ length old → All (BeginsAt shared) old → AllServed rounds old new → All (IsAt shared) new
all_at shared rounds old new size begin served n d below =
    let was = begin n d (omega (arith, size, below)) in
    let did = served n d (omega (arith, size, below)) in
    record { pool = did.stays.pool ∙ was.at.pool; directory = did.stays.directory ∙ was.at.directory }

pub all_at_last : (shared : Shared) (rounds : List Round) (hired old new last : List Worker) → old ≡ hired → last ≡ new → length new ≡ length old → All (BeginsAt shared) hired → AllServed rounds old new → All (IsAt shared) last
all_at_last shared rounds hired old new last first end size begin served =
    subst (λ (l : List Worker). All (IsAt shared) l) (sym end) (all_at shared rounds old new size (subst (λ (l : List Worker). All (BeginsAt shared) l) (sym first) begin) served)
