-- Lists that a loop writes place by place, and lists that it makes of another one's first entries.
use Rattle.std.proofs.Common.{◌≡◌, ◌<◌, ◌≤◌, ◌+◌, ℕ, zero, suc, List, [], ◌∷◌, ◌++◌, length, get_or, set, take, drop, map, refl, sym, ap, ◌∙◌, arith}
use Rattle.std.specs.List.{flat_map, fold}
use Rattle.std.proofs.lemmas.List.{length-take-le, get_or_default, take_more, map_more, flat_map_more}
use Rattle.std.proofs.lemmas.List.Sums.{fold_more}
use Rattle.replay_rounds.specs.Slots.{threaded}

more_is : (i : ℕ) → suc i ≡ i + 1
more_is i = omega arith

-- ---- each place is written by itself

-- the places below `i` are written
abbrev pub written : {X : Type 0} → (X → X) → ℕ → List X → List X
written f i old = map f (take i old) ++ drop i old

pub written_at : {X : Type 0} (f : X → X) (old : List X) (i : ℕ) (d : X) → i < length old → get_or (written f i old) i d ≡ get_or old i d
written_at f [] i d below = absurd (omega arith)
written_at f (x ∷ old) zero d below = refl
written_at f (x ∷ old) (suc i) d below = written_at f old i d (omega arith)

pub written-length : {X : Type 0} (f : X → X) (old : List X) (i : ℕ) → length (written f i old) ≡ length old
written-length f [] zero = refl
written-length f [] (suc i) = refl
written-length f (x ∷ old) zero = refl
written-length f (x ∷ old) (suc i) = ap suc (written-length f old i)

written_suc : {X : Type 0} (f : X → X) (old : List X) (i : ℕ) (x : X) → i < length old → x ≡ get_or old i x → set (written f i old) i (f x) ≡ written f (suc i) old
written_suc f [] i x below is = absurd (omega arith)
written_suc f (y ∷ old) zero x below is = ap (λ z. f z ∷ old) is
written_suc f (y ∷ old) (suc i) x below is = ap (λ l. f y ∷ l) (written_suc f old i x (omega arith) is)

pub written-all : {X : Type 0} (f : X → X) (old : List X) (i : ℕ) → length old ≤ i → written f i old ≡ map f old
written-all f [] zero past = refl
written-all f [] (suc i) past = refl
written-all f (x ∷ old) zero past = absurd (omega arith)
written-all f (x ∷ old) (suc i) past = ap (λ l. f x ∷ l) (written-all f old i (omega arith))

-- the next one is written
pub written-step : {X : Type 0} (f : X → X) (old now : List X) (i : ℕ) (x y : X) → i < length old → now ≡ written f i old → x ≡ get_or now i x → y ≡ f x → set now i y ≡ written f (i + 1) old
written-step f old now i x y below was is put =
    let here : x ≡ get_or old i x = is ∙ ap (λ l. get_or l i x) was ∙ written_at f old i x below in
    (λ j. set (was j) i (put j)) ∙ written_suc f old i x below here ∙ ap (λ n. written f n old) (more_is i)

-- what an index reads there, whatever the default
pub written-entry : {X : Type 0} (f : X → X) (old now : List X) (i : ℕ) (d : X) → i < length old → now ≡ written f i old → get_or now i d ≡ get_or old i d
written-entry f old now i d below was = ap (λ l. get_or l i d) was ∙ written_at f old i d below

pub written-next : {X : Type 0} (f : X → X) (old now : List X) (i : ℕ) (d : X) → i < length old → now ≡ written f i old → set now i (f (get_or now i d)) ≡ written f (i + 1) old
written-next f old now i d below was =
    let within : i < length now = let size = ap length was ∙ written-length f old i in omega (arith, size) in
    written-step f old now i (get_or now i d) (f (get_or now i d)) below was (get_or_default now i d (get_or now i d) within) refl

-- ---- each place is written by its mark

pub threaded-length : {M L X : Type 0} (step : M → L → X → X) (next : M → L → L) (marks : List M) (left : L) (old : List X) → length (threaded step next marks left old) ≡ length old
threaded-length step next [] left old = refl
threaded-length step next (m ∷ marks) left [] = refl
threaded-length step next (m ∷ marks) left (x ∷ old) = ap suc (threaded-length step next marks (next m left) old)

threaded_at : {M L X : Type 0} (step : M → L → X → X) (next : M → L → L) (marks : List M) (left : L) (old : List X) (i : ℕ) (d : X) → length marks ≤ i → get_or (threaded step next marks left old) i d ≡ get_or old i d
threaded_at step next [] left old i d past = refl
threaded_at step next (m ∷ marks) left [] i d past = refl
threaded_at step next (m ∷ marks) left (x ∷ old) zero d past = absurd (omega arith)
threaded_at step next (m ∷ marks) left (x ∷ old) (suc i) d past = threaded_at step next marks (next m left) old i d (omega arith)

-- what the marks leave
abbrev pub remains : {M L : Type 0} → (M → L → L) → List M → L → L
remains next marks left = fold (λ l m. next m l) left marks

threaded_push : {M L X : Type 0} (step : M → L → X → X) (next : M → L → L) (marks : List M) (m : M) (left : L) (old : List X) (x : X) → length marks < length old → x ≡ get_or old (length marks) x
    → threaded step next (marks ++ m ∷ []) left old ≡ set (threaded step next marks left old) (length marks) (step m (remains next marks left) x)
threaded_push step next [] m left [] x below is = absurd (omega arith)
threaded_push step next [] m left (y ∷ old) x below is = ap (λ z. step m left z ∷ old) (sym is)
threaded_push step next (n ∷ marks) m left [] x below is = absurd (omega arith)
threaded_push step next (n ∷ marks) m left (y ∷ old) x below is = ap (λ l. step n left y ∷ l) (threaded_push step next marks m (next n left) old x (omega arith) is)

pub threaded-read : {M L X : Type 0} (step : M → L → X → X) (next : M → L → L) (marks : List M) (left : L) (old now : List X) (i : ℕ) (x : X)
    → i < length marks → now ≡ threaded step next (take i marks) left old → x ≡ get_or now i x → x ≡ get_or old i x
threaded-read step next marks left old now i x below was is =
    let short : length (take i marks) ≤ i = let taken = length-take-le i marks (omega arith) in omega arith in
    is ∙ ap (λ l. get_or l i x) was ∙ threaded_at step next (take i marks) left old i x short

pub threaded-step : {M L X : Type 0} (step : M → L → X → X) (next : M → L → L) (marks : List M) (start left : L) (old now : List X) (i : ℕ) (m : M) (x y : X)
    → i < length marks → i < length old → m ≡ get_or marks i m → left ≡ remains next (take i marks) start → now ≡ threaded step next (take i marks) start old → x ≡ get_or now i x → y ≡ step m left x
    → set now i y ≡ threaded step next (take (i + 1) marks) start old
threaded-step {X = X} step next marks start left old now i m x y below within is_mark is_left was is put =
    let size : length (take i marks) ≡ i = length-take-le i marks (omega arith) in
    let here : x ≡ get_or old i x = threaded-read step next marks start old now i x below was is in
    let push = threaded_push step next (take i marks) m start old x (omega arith) (here ∙ ap (λ n. get_or old n x) (sym size)) in
    let more : take (i + 1) marks ≡ take i marks ++ m ∷ [] = take_more marks i m below ∙ ap (λ z. take i marks ++ z ∷ []) (sym is_mark) in
    let written : y ≡ step m (remains next (take i marks) start) x = put ∙ ap (λ l. step m l x) is_left in
    (λ j. set (was j) i (written j)) ∙ ap (λ n. set (threaded step next (take i marks) start old) n (step m (remains next (take i marks) start) x)) (sym size)
    ∙ sym push ∙ ap (λ ms. threaded step next ms start old) (sym more)

pub remains-step : {M L : Type 0} (next : M → L → L) (marks : List M) (start left after : L) (i : ℕ) (m : M) → i < length marks → m ≡ get_or marks i m → left ≡ remains next (take i marks) start → after ≡ next m left
    → after ≡ remains next (take (i + 1) marks) start
remains-step next marks start left after i m below is_mark is_left is =
    is ∙ (λ j. next (is_mark j) (is_left j)) ∙ sym (fold_more (λ l m. next m l) start marks i m below)

pub threaded-entry : {M L X : Type 0} (step : M → L → X → X) (next : M → L → L) (marks : List M) (left : L) (old now : List X) (i : ℕ) (d : X)
    → i < length marks → now ≡ threaded step next (take i marks) left old → get_or now i d ≡ get_or old i d
threaded-entry step next marks left old now i d below was =
    let short : length (take i marks) ≤ i = let taken = length-take-le i marks (omega arith) in omega arith in
    ap (λ l. get_or l i d) was ∙ threaded_at step next (take i marks) left old i d short

pub threaded-next : {M L X : Type 0} (step : M → L → X → X) (next : M → L → L) (marks : List M) (start left : L) (old now : List X) (i : ℕ) (e : M) (d : X)
    → i < length marks → i < length old → left ≡ remains next (take i marks) start → now ≡ threaded step next (take i marks) start old
    → set now i (step (get_or marks i e) left (get_or now i d)) ≡ threaded step next (take (i + 1) marks) start old
threaded-next step next marks start left old now i e d below within is_left was =
    let inside : i < length now = let size = ap length was ∙ threaded-length step next (take i marks) start old in omega (arith, size) in
    threaded-step step next marks start left old now i (get_or marks i e) (get_or now i d) (step (get_or marks i e) left (get_or now i d)) below within
    (get_or_default marks i e (get_or marks i e) below) is_left was (get_or_default now i d (get_or now i d) inside) refl

pub remains-next : {M L : Type 0} (next : M → L → L) (marks : List M) (start left : L) (i : ℕ) (e : M) → i < length marks → left ≡ remains next (take i marks) start → next (get_or marks i e) left ≡ remains next (take (i + 1) marks) start
remains-next next marks start left i e below is_left =
    remains-step next marks start left (next (get_or marks i e) left) i (get_or marks i e) below (get_or_default marks i e (get_or marks i e) below) is_left refl

-- ---- lists made of the first entries

pub map-step : {X Y : Type 0} (f : X → Y) (xs : List X) (i : ℕ) (x : X) (now more : List Y) (y : Y) → i < length xs → x ≡ get_or xs i x → now ≡ map f (take i xs) → y ≡ f x → more ≡ now ++ y ∷ [] → more ≡ map f (take (i + 1) xs)
map-step f xs i x now more y below is was made pushed =
    pushed ∙ (λ j. was j ++ (made ∙ ap f is) j ∷ []) ∙ sym (map_more f xs i x below)

pub flat-step : {X Y : Type 0} (f : X → List Y) (start : List Y) (xs : List X) (i : ℕ) (x : X) (now more : List Y) → i < length xs → x ≡ get_or xs i x → now ≡ start ++ flat_map f (take i xs) → more ≡ now ++ f x → more ≡ start ++ flat_map f (take (i + 1) xs)
flat-step f start xs i x now more below is was added =
    added ∙ (λ j. was j ++ f (is j)) ∙ flat_map_more f start (take i xs) (get_or xs i x)
    ∙ ap (λ l. start ++ flat_map f l) (sym (take_more xs i x below))

-- the same of what an index reads, whatever the default
pub map-next : {X Y : Type 0} (f : X → Y) (xs : List X) (i : ℕ) (d : X) (now more : List Y) (y : Y) → i < length xs → now ≡ map f (take i xs) → y ≡ f (get_or xs i d) → more ≡ now ++ y ∷ [] → more ≡ map f (take (i + 1) xs)
map-next f xs i d now more y below was made pushed = map-step f xs i (get_or xs i d) now more y below (get_or_default xs i d (get_or xs i d) below) was made pushed

pub flat-next : {X Y : Type 0} (f : X → List Y) (start : List Y) (xs : List X) (i : ℕ) (d : X) (now more : List Y) → i < length xs → now ≡ start ++ flat_map f (take i xs) → more ≡ now ++ f (get_or xs i d) → more ≡ start ++ flat_map f (take (i + 1) xs)
flat-next f start xs i d now more below was added = flat-step f start xs i (get_or xs i d) now more below (get_or_default xs i d (get_or xs i d) below) was added

pub below_as : (i m n : ℕ) → i < m → m ≡ n → i < n
below_as i m n below same = omega arith
