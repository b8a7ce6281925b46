-- The ticks that light, and those that nobody waits for any more.
use Rattle.std.proofs.Common.{◌≡◌, ℕ, ◌+◌, ◌<◌, ◌≤◌, Bool, true, false, ◌&&◌, ◌||◌, nat_eq, nat_lt, nat_le, cond}
use Rattle.std.proofs.Common.{List, [], ◌∷◌, ◌++◌, length, map, refl, ap, sym, ◌∙◌, arith, zero, suc, Option, Some}
use Rattle.std.proofs.Common.{None, Result, Ok, Err, IfOk, append_assoc, drop, add-one, length-append}
use Rattle.std.specs.Prelude.{Contains, ◌↔◌}
use Rattle.std.specs.List.{filter, cons_option}
use Rattle.std.proofs.lemmas.Bool.Decides.{nat_tests}
use Rattle.cml_value.specs.Value.{PlainBase}
use Rattle.cml_value.specs.Group.{PlainGroup, bases, leaves}
use Rattle.cml_group.specs.Leaves.{leaf_base}
use Rattle.cml_scan.specs.Light.{light}
use Rattle.cml_scan.specs.Table.{has_light}
use Rattle.cml_scan.specs.declared.object.Light.{Light}
use Rattle.cml_scan.specs.declared.object.Light.TheVariants as of
use Rattle.cml_objects.specs.Clocks.{PlainClock, LightsTick}
use Rattle.cml_scan.specs.World.{PlainThread, pending_from}
use Rattle.cml_book.specs.Clock.{bases_awaited}
use Rattle.cml_book.specs.Keeping.{lights_in, times_awaited, Counts}
use Rattle.cml_book.specs.Leaving.{comes}
use Rattle.cml_book.proofs.Retold.{lights_in-cons, leaf_at}

or_true : (b : Bool) → b || true ≡ true
or_true true = refl
or_true false = refl

later : (b : ℕ) (bs : List ℕ) (x : ℕ) → Contains bs x → Contains (b ∷ bs) x
later b bs x (k, h, e) = (suc k, (omega arith), e)

between : (a b c : ℕ) → a < b → b ≤ c → nat_lt a b && nat_le b c ≡ true
between a b c h k = grind (arith, nat_tests)

-- no other light is among those of ticks that come
pub alarms_only : (from to : ℕ) (ts : List ℕ) → ((t : ℕ) → Contains ts t → (from < t) × (t ≤ to)) → (l : Light) → has_light (map of.Alarm ts) l ≡ true → comes from to l ≡ true
alarms_only from to [] h l e = cc
alarms_only from to (t ∷ ts) h (of.Alarm u) e = at (nat_eq u t) refl e (alarms_only from to ts (λ x c. h x (later t ts x c)) (of.Alarm u))
  where
    at : (s : Bool) → nat_eq u t ≡ s → s || has_light (map of.Alarm ts) (of.Alarm u) ≡ true
        → (has_light (map of.Alarm ts) (of.Alarm u) ≡ true → comes from to (of.Alarm u) ≡ true)
        → comes from to (of.Alarm u) ≡ true
    at true i f ih =
        let same : u ≡ t = grind (arith, nat_tests) in
        let p = h t (zero, (omega arith), refl) in
        rw same (between from t to p.0 p.1)
    at false i f ih = ih f
alarms_only from to (t ∷ ts) h l e = alarms_only from to ts (λ x c. h x (later t ts x c)) l e

-- each of them is
pub alarms_all : (ts : List ℕ) (t : ℕ) → Contains ts t → has_light (map of.Alarm ts) (of.Alarm t) ≡ true
alarms_all [] t (k, h, e) = absurd (omega arith)
alarms_all (u ∷ ts) t (zero, h, e) = let same : nat_eq t u ≡ true = grind (arith, nat_tests) in rw same refl
alarms_all (u ∷ ts) t (suc k, h, e) = rw (alarms_all ts t (k, (omega arith), e)) (or_true (nat_eq t u))

pub if_ok : {X E : Type 0} (P Q : X → Type 0) (r : Result X E) → ((x : X) → P x → Q x) → IfOk r P → IfOk r Q
if_ok P Q (Ok x) f h = f x h
if_ok P Q (Err e) f h = tt

-- the lights of the ticks that are left, leaf by leaf
module _ (p : PlainBase → Bool) where
  lit_one : (b : PlainBase) → length (lights_in (filter p (b ∷ []))) ≤ 1
  lit_one b = at (p b) (light b)
    where
      one : (o : Option Light) → length (cons_option o []) ≤ 1
      one None = omega arith
      one (Some l) = omega arith

      at : (s : Bool) (o : Option Light) → length (lights_in (cond s (b ∷ []) [])) ≤ 1
      at true o = one (light b)
      at false o = omega arith

  lit-cons : (b : PlainBase) (bs : List PlainBase) → lights_in (filter p (b ∷ bs)) ≡ lights_in (filter p (b ∷ [])) ++ lights_in (filter p bs)
  lit-cons b bs = at (p b)
    where
      at : (s : Bool) → lights_in (cond s (b ∷ filter p bs) (filter p bs)) ≡ lights_in (cond s (b ∷ []) []) ++ lights_in (filter p bs)
      at true = lights_in-cons b (filter p bs)
      at false = refl

  pub left_step : (g : PlainGroup) (n : ℕ) (b : PlainBase) (lights lights' all : List Light) → leaf_base g n ≡ Some b
      → lights ++ lights_in (filter p (drop n (bases g))) ≡ all → lights' ≡ lights ++ lights_in (filter p (b ∷ []))
      → lights' ++ lights_in (filter p (drop (n + 1) (bases g))) ≡ all
  left_step g n b lights lights' all h e new =
      rw (add-one, new)
      (append_assoc lights (lights_in (filter p (b ∷ []))) (lights_in (filter p (drop (suc n) (bases g))))
      ∙ ap (λ xs. lights ++ xs) (sym (lit-cons b (drop (suc n) (bases g))) ∙ ap (λ bs. lights_in (filter p bs)) (sym (leaf_at (leaves g) n b h)))
      ∙ e)

  pub left_longer : (b : PlainBase) (lights lights' : List Light) → lights' ≡ lights ++ lights_in (filter p (b ∷ [])) → length lights' ≤ length lights + 1
  left_longer b lights lights' new = let one = lit_one b in let all = ap length new ∙ length-append lights (lights_in (filter p (b ∷ []))) in omega arith

-- what is said of the ticks that come when the clock moves
module _ (clock : PlainClock) (ts : List PlainThread) (counts : Counts ts clock.waited) (to : ℕ) (ticks : List ℕ) (lights : List Light)
    (exact : (t : ℕ) → Contains ticks t ↔ LightsTick clock to t) (is : lights ≡ map of.Alarm ticks) where
  pub ticks_only : (l : Light) → has_light lights l ≡ true → comes clock.tick to l ≡ true
  ticks_only = rw is (alarms_only clock.tick to ticks (λ t c. (let e = (exact t).0 c in (e.1, e.2))))

  pub ticks_all : (t : ℕ) → 1 ≤ times_awaited t (bases_awaited (pending_from 0 ts)) → clock.tick < t → t ≤ to → has_light lights (of.Alarm t) ≡ true
  ticks_all t h above below = rw is (alarms_all ticks t ((exact t).1 ((let e = counts.counted t in omega arith), above, below)))
