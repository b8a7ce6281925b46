-- A local turn keeps what is promised of a quiet one.
use Rattle.std.proofs.Common.{◌≡◌, ◌≢◌, ℕ, zero, suc, ◌<◌, Bool, true, false, ◌&&◌, List, [], ◌∷◌, ◌++◌, length, Option, Some, None}
use Rattle.std.proofs.Common.{refl, ap, sym, subst, ◌∙◌, arith, append-nil, true≢false, slice_get, length-set}
use Rattle.std.specs.Prelude.{IsSome, option_map, slice_set, if◌then◌else◌}
use Rattle.std.specs.Option.{option_map_or}
use Rattle.std.proofs.lemmas.Option.{same_Some, slice_get_within}
use Rattle.std.proofs.lemmas.List.{set_comm, set-append_left}
use Rattle.cml_verify.specs.Systems.{KeepsQuiet, Swaps}
use Rattle.cml_verify.specs.Threads.{Stand, Act, turn, event, Machine, after_turn, stepped, is_quiet, AreLocal, turn_owner, system_of}

-- reads and writes at places
get_set_other : {X : Type 0} (xs : List X) (i j : ℕ) (y : X) → i ≢ j → slice_get (slice_set xs j y) i ≡ slice_get xs i
get_set_other [] i j y ne = refl
get_set_other (x ∷ xs) zero zero y ne = absurd (ne refl)
get_set_other (x ∷ xs) zero (suc j) y ne = refl
get_set_other (x ∷ xs) (suc i) zero y ne = refl
get_set_other (x ∷ xs) (suc i) (suc j) y ne = get_set_other xs i j y (λ e. ne (ap suc e))

get_front : {X : Type 0} (xs ys : List X) (k : ℕ) → k < length xs → slice_get (xs ++ ys) k ≡ slice_get xs k
get_front [] ys k h = absurd (omega arith)
get_front (x ∷ xs) ys zero h = refl
get_front (x ∷ xs) ys (suc k) h = get_front xs ys k (omega arith)

both : (a b : Bool) → (a && b) ≡ true → (a ≡ true) × (b ≡ true)
both true b e = (refl, e)
both false b e = absurd (true≢false (sym e))

record Holds {T : Type 0} (f : T → Bool) (o : Option T) : Type 0 where
  pub it : T
  pub is : o ≡ Some it
  pub passes : f it ≡ true

holds : {T : Type 0} (f : T → Bool) (o : Option T) → option_map_or f o false ≡ true → Holds f o
holds f None e = absurd (true≢false (sym e))
holds f (Some x) e = record { it = x; is = refl; passes = e }

record Mapped {X Y : Type 0} (b : Bool) (f : X → Y) (o : Option X) (y : Y) : Type 0 where
  pub allowed : b ≡ true
  pub from : X
  pub is : o ≡ Some from
  pub gives : f from ≡ y

mapped : {X Y : Type 0} (b : Bool) (f : X → Y) (o : Option X) (y : Y) → (if b then option_map f o else None) ≡ Some y → Mapped b f o y
mapped true f None y e = absurd (none e)
  where
    none : None ≡ Some y → ⊥
    none e = cc
mapped true f (Some x) y e = record { allowed = refl; from = x; is = refl; gives = same_Some (f x) y e }
mapped false f o y e = absurd (none e)
  where
    none : None ≡ Some y → ⊥
    none e = cc

module _ {W T J : Type 0} (m : Machine W T J) (listed : Stand W T → List (Act J)) (local : AreLocal m) where
  turn_is : (s : Stand W T) (t : ℕ) (x : T) → m.runs s.world t ≡ true → slice_get s.terms t ≡ Some x → stepped m s (turn t) ≡ Some (after_turn m s t (m.turned s.world t x))
  turn_is s t x r h =
      ap (λ b. if b then option_map (λ z. after_turn m s t (m.turned s.world t z)) (slice_get s.terms t) else None) r
      ∙ ap (option_map (λ z. after_turn m s t (m.turned s.world t z))) h

  -- a local turn sets the thread's term, and no more
  local_is : (s : Stand W T) (t : ℕ) (x : T) → m.runs s.world t ≡ true → slice_get s.terms t ≡ Some x → m.is_local t x ≡ true → (v : W) → m.time s.world ≡ m.time v
      → stepped m s (turn t) ≡ Some (record { world = s.world; terms = slice_set s.terms t (m.turned v t x).term })
  local_is s t x r h l v same =
      let k = local.turns t x l in
      turn_is s t x r h ∙ ap (λ (d : Stand W T). Some d) (λ i. record {
        world = k.world s.world i;
        terms = (ap (λ bs. slice_set s.terms t (m.turned s.world t x).term ++ bs) (k.begun s.world)
            ∙ append-nil (slice_set s.terms t (m.turned s.world t x).term) ∙ ap (slice_set s.terms t) (k.reads s.world v same)) i;
      })

  module _ (s : Stand W T) (t : ℕ) (x : T) (r : m.runs s.world t ≡ true) (h : slice_get s.terms t ≡ Some x) (l : m.is_local t x ≡ true) where
    -- the term after the turn
    abbrev after : T
    after = (m.turned s.world t x).term

    quiet_at : (d : Stand W T) → m.runs d.world t ≡ true → slice_get d.terms t ≡ Some x → is_quiet m d (turn t) ≡ true
    quiet_at d e f = ap (λ b. b && option_map_or (m.is_local t) (slice_get d.terms t) false) e ∙ (ap (λ o. option_map_or (m.is_local t) o false) f ∙ l)

    -- a turn of another thread
    swaps_turn : (u : ℕ) (y : T) → u ≢ t → m.runs s.world u ≡ true → slice_get s.terms u ≡ Some y
        → Swaps (system_of m listed) s (turn t) (turn u) (after_turn m s u (m.turned s.world u y))
    swaps_turn u y ne ru hu =
        let d = after_turn m s u (m.turned s.world u y) in
        let term_u : T = (m.turned s.world u y).term in
        let begun : List T = (m.turned s.world u y).begun in
        let set_u : List T = slice_set s.terms u term_u in
        let own : t ≢ u = λ e. ne (sym e) in
        let within : t < length s.terms = slice_get_within s.terms t x h in
        let within_u : t < length set_u = omega (arith, length-set s.terms u term_u) in
        let there : slice_get (set_u ++ begun) t ≡ Some x = get_front set_u begun t within_u ∙ (get_set_other s.terms t u term_u own ∙ h) in
        let runs_on : m.runs (m.turned s.world u y).world t ≡ true = local.runs_on s.world t u y own r in
        record {
          stays = quiet_at d runs_on there;
          turned = record { world = s.world; terms = slice_set s.terms t after };
          both = record { world = (m.turned s.world u y).world; terms = slice_set (slice_set s.terms t after) u term_u ++ begun };
          first = local_is s t x r h l s.world refl;
          then_ = turn_is (record { world = s.world; terms = slice_set s.terms t after }) u y ru (get_set_other s.terms u t after ne ∙ hu);
          other_way = local_is d t x runs_on there l s.world (local.time s.world u y)
              ∙ ap (λ (ts : List T). let v : Stand W T = record { world = (m.turned s.world u y).world; terms = ts } in Some v)
              (set-append_left set_u begun t after within_u ∙ ap (λ zs. zs ++ begun) (set_comm s.terms u t term_u after ne));
        }

    -- an event
    swaps_event : (j : J) (d : Stand W T) → m.happens s j ≡ Some d → Swaps (system_of m listed) s (turn t) (event j) d
    swaps_event j d e =
        let k = local.events s j t d r e in
        let there : slice_get d.terms t ≡ Some x = k.term ∙ h in
        record {
          stays = quiet_at d k.runs there;
          turned = record { world = s.world; terms = slice_set s.terms t after };
          both = record { world = d.world; terms = slice_set d.terms t after };
          first = local_is s t x r h l s.world refl;
          then_ = k.whatever after;
          other_way = local_is d t x k.runs there l s.world k.time;
        }

    keeps : KeepsQuiet (system_of m listed) s (turn t)
    keeps = record { can = subst IsSome (sym (turn_is s t x r h)) refl; alone = alone; swaps = swaps }
      where
        alone : (i : Act J) (d : Stand W T) → stepped m s i ≡ Some d → turn_owner i ≡ turn_owner {J = J} (turn t) → i ≡ turn t
        alone (turn u) d e own = ap (λ n. turn n) (same_Some u t own)
        alone (event j) d e own = cc

        swaps : (i : Act J) (d : Stand W T) → stepped m s i ≡ Some d → turn_owner i ≢ turn_owner {J = J} (turn t) → Swaps (system_of m listed) s (turn t) i d
        swaps (turn u) d e other =
            let f = mapped (m.runs s.world u) (λ z. after_turn m s u (m.turned s.world u z)) (slice_get s.terms u) d e in
            subst (Swaps (system_of m listed) s (turn t) (turn u)) f.gives (swaps_turn u f.from (λ n. other (ap (λ k. Some k) n)) f.allowed f.is)
        swaps (event j) d e other = swaps_event j d e

  pub keeps_quiet : (s : Stand W T) (a : Act J) → is_quiet m s a ≡ true → KeepsQuiet (system_of m listed) s a
  keeps_quiet s (turn t) q =
      let b = both (m.runs s.world t) (option_map_or (m.is_local t) (slice_get s.terms t) false) q in
      let x = holds (m.is_local t) (slice_get s.terms t) b.1 in
      keeps s t x.it b.0 x.is x.passes
  keeps_quiet s (event j) q = absurd (true≢false (sym q))
