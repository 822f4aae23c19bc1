-- How a fetch ends, by the numbers that it begins with. The order of its tests, the exact limit, that slabs are brought in for the first item alone, and that a request with the right to the reserve gets one item of it, are own; the limit, the reserve and the slabs are FreeBSD's uma(9).
use Rattle.std.specs.Prelude.{◌≡◌, ◌≤◌, ◌<◌, ◌+◌, ◌-◌, ◌*◌, ◌⊎◌, ℕ, Bool, true, false, not, ◌&&◌, ◌==◌, nat_lt, nat_le, cond, min}
use Rattle.zone_stats.specs.declared.refusal.Refusal.{Refusal}
use Rattle.zone_stats.specs.declared.refusal.Refusal.TheVariants.{AtLimit, Reserved, Full}

-- what a fetch finds: the items of a slab, the reserve, the zone's items outside and its limit, and the keg's free items, its slabs, the most of them, and those ever brought in
pub record Found : Type 0 where
  pub per_slab : ℕ
  pub reserve : ℕ
  pub out : ℕ
  pub limit : ℕ
  pub free : ℕ
  pub slabs : ℕ
  pub cap : ℕ
  pub made : ℕ

-- what it asks for: the most items, and whether it has the right to the reserve
pub record Wish : Type 0 where
  pub most : ℕ
  pub reserve : Bool

-- the zone has a limit, and as many items outside or more
abbrev pub is_at_limit : Found → Bool
is_at_limit found = nat_lt 0 found.limit && nat_le found.limit found.out

-- the free items once so many slabs more are in
abbrev pub free_with : Found → ℕ → ℕ
free_with found slabs = found.free + slabs * found.per_slab

-- so many slabs more are enough: some item is free beyond the reserve, or no further slab may be in
abbrev pub IsEnough : Found → ℕ → Type 0
IsEnough found slabs = (found.reserve < free_with found slabs) ⊎ (found.slabs + slabs ≡ found.cap)

-- the least count of new slabs that is enough
pub record IsNewSlabs (found : Found) (slabs : ℕ) : Type 0 where
  pub enough : IsEnough found slabs
  pub least : (fewer : ℕ) → fewer < slabs → IsEnough found fewer → ⊥

-- how many more items the limit allows, or as many as are asked for where there is no limit
abbrev pub allowed : Found → Wish → ℕ
allowed found wish = cond (found.limit == 0) wish.most (found.limit - found.out)

-- how many items are given where so many are free and none is refused by a hook: one of the reserve, or what lies beyond it
abbrev pub given : Found → Wish → ℕ → ℕ
given found wish free = cond (nat_le free found.reserve) 1 (min wish.most (min (free - found.reserve) (allowed found wish)))

pub data Outcome : Type 0 where
  Refuses : Refusal → Outcome
  Gives : ℕ → Outcome

-- how a fetch ends that isn't at the limit, once so many new slabs are in
abbrev pub outcome_with : Found → Wish → ℕ → Outcome
outcome_with found wish slabs =
    let free = free_with found slabs in
    cond (free == 0) (Refuses (Full (found.slabs + slabs) (found.made + slabs)))
    (cond (nat_le free found.reserve && not wish.reserve) (Refuses (Reserved free found.reserve)) (Gives (given found wish free)))

-- how a fetch ends where no hook refuses and memory is not wanting: at the limit with its numbers, and else by the least count of new slabs that is enough
pub record EndsAs (found : Found) (wish : Wish) (outcome : Outcome) : Type 0 where
  pub at_limit : is_at_limit found ≡ true → outcome ≡ Refuses (AtLimit found.out found.limit)
  pub below_limit : is_at_limit found ≡ false → (slabs : ℕ) × IsNewSlabs found slabs × (outcome ≡ outcome_with found wish slabs)

-- the fetch is allowed: the zone has no limit, or fewer items outside
pub record IsBelowLimit (found : Found) : Type 0 where
  pub within : 0 < found.limit → found.out < found.limit

-- 1. The least count of new slabs is one alone.
-- 2. A fetch that gives items gives at least one and no more than were asked for.
-- 3. It leaves at most the limit outside, where the zone has one.
-- 4. Below the limit, a fetch gives items where some are free beyond the reserve, or where some are free and it has the right to the reserve.
-- 5. Where no more slabs are in than may be, there is such a count, so each fetch has an end by its numbers, and one alone.
-- 6. The right to the reserve changes the end of a fetch only where it would be refused as Reserved: then it gives one item.
pub record FetchLaw : Type 0 where
  pub one_count : (found : Found) (slabs other : ℕ) → IsNewSlabs found slabs → IsNewSlabs found other → slabs ≡ other
  pub some_count : (found : Found) → found.slabs ≤ found.cap → (slabs : ℕ) × IsNewSlabs found slabs
  pub some_end : (found : Found) (wish : Wish) → found.slabs ≤ found.cap → (outcome : Outcome) × EndsAs found wish outcome
  pub one_end : (found : Found) (wish : Wish) (outcome other : Outcome) → EndsAs found wish outcome → EndsAs found wish other → outcome ≡ other
  pub some : (found : Found) (wish : Wish) (n : ℕ) → 1 ≤ wish.most → EndsAs found wish (Gives n) → (1 ≤ n) × (n ≤ wish.most)
  pub limit : (found : Found) (wish : Wish) (n : ℕ) → 0 < found.limit → EndsAs found wish (Gives n) → found.out + n ≤ found.limit
  pub complete : (found : Found) (wish : Wish) (slabs : ℕ) → IsBelowLimit found → IsNewSlabs found slabs → (found.reserve < free_with found slabs) ⊎ ((0 < free_with found slabs) × (wish.reserve ≡ true)) → EndsAs found wish (Gives (given found wish (free_with found slabs)))
  pub reserve : (found : Found) (most : ℕ) (without with_right : Outcome) → EndsAs found (record { most = most; reserve = false }) without → EndsAs found (record { most = most; reserve = true }) with_right
      → (with_right ≡ without) ⊎ ((free : ℕ) × (0 < free) × (free ≤ found.reserve) × (without ≡ Refuses (Reserved free found.reserve)) × (with_right ≡ Gives 1))
