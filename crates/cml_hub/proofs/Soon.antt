-- No thread waits for a tick above the greatest, so the time can move to each alarm.
use Rattle.std.proofs.Common.{◌≡◌, ℕ, zero, suc, ◌+◌, ◌<◌, ◌≤◌, Bool, true, false, not, ◌||◌, nat_lt, List, [], ◌∷◌, ◌++◌, length, map, refl, ap, sym, ◌∙◌, arith, slice_index_or, inl, inr}
use Rattle.std.specs.Prelude.{Contains}
use Rattle.std.specs.List.{list_any}
use Rattle.std.proofs.lemmas.Bool.Decides.{nat_tests}
use Rattle.std.proofs.lemmas.List.Elements.{Contains-append_cases}
use Rattle.cml_value.specs.Value.{PlainBase, at_tick, after_ticks}
use Rattle.cml_value.specs.Group.{PlainGroup, never, leaf, choose, wrap, scope, PlainGroups, no_groups, groups_and, PlainLeaf, wrapped_by, leaves, leaves_of_all, bases}
use Rattle.cml_scan.specs.World.{PlainThread, running, pending_on, ended, pending_from}
use Rattle.cml_scan.specs.Order.{Every}
use Rattle.cml_book.specs.Clock.{bases_awaited}
use Rattle.cml_book.specs.Entering.{entered, entered_all, entered_base, is_far, max_tick}
use Rattle.cml_hub.specs.Agreeing.{waits_soon}

-- the leaves of a list, whose bases
abbrev pub bases_in : List PlainLeaf → List PlainBase
bases_in ls = map (λ l. l.base) ls

bases_append : (xs ys : List PlainLeaf) → bases_in (xs ++ ys) ≡ bases_in xs ++ bases_in ys
bases_append [] ys = refl
bases_append (x ∷ xs) ys = ap (λ bs. x.base ∷ bs) (bases_append xs ys)

bases_wrapped : (f : _) (ls : List PlainLeaf) → bases_in (map (wrapped_by f) ls) ≡ bases_in ls
bases_wrapped f [] = refl
bases_wrapped f (l ∷ ls) = ap (λ bs. l.base ∷ bs) (bases_wrapped f ls)

map_append : (t : ℕ) (xs ys : List PlainBase) → map (entered_base t) (xs ++ ys) ≡ map (entered_base t) xs ++ map (entered_base t) ys
map_append t [] ys = refl
map_append t (x ∷ xs) ys = ap (λ bs. entered_base t x ∷ bs) (map_append t xs ys)

mutual
  -- the base events of a group that enters
  pub bases_entered : (t : ℕ) (g : PlainGroup) → bases_in (leaves (entered t g)) ≡ map (entered_base t) (bases_in (leaves g))
  bases_entered t never = refl
  bases_entered t (leaf b) = refl
  bases_entered t (choose gs) = all_bases_entered t gs
  bases_entered t (wrap g f) = bases_wrapped f (leaves (entered t g)) ∙ bases_entered t g ∙ ap (map (entered_base t)) (sym (bases_wrapped f (leaves g)))
  bases_entered t (scope k g) = bases_entered t g

  all_bases_entered : (t : ℕ) (gs : PlainGroups) → bases_in (leaves_of_all (entered_all t gs)) ≡ map (entered_base t) (bases_in (leaves_of_all gs))
  all_bases_entered t no_groups = refl
  all_bases_entered t (groups_and g gs) =
      bases_append (leaves (entered t g)) (leaves_of_all (entered_all t gs))
      ∙ ap (λ bs. bs ++ bases_in (leaves_of_all (entered_all t gs))) (bases_entered t g)
      ∙ ap (λ bs. map (entered_base t) (bases_in (leaves g)) ++ bs) (all_bases_entered t gs)
      ∙ sym (map_append t (bases_in (leaves g)) (bases_in (leaves_of_all gs)))
      ∙ ap (map (entered_base t)) (sym (bases_append (leaves g) (leaves_of_all gs)))

-- a base event that is not far waits for no tick above the greatest once it has entered
near_base : (t : ℕ) (b : PlainBase) → is_far 0 (entered_base t b) ≡ is_far t b
near_base t (after_ticks d) = refl
near_base t _ = refl

near_bases : (t : ℕ) (bs : List PlainBase) → list_any (is_far 0) (map (entered_base t) bs) ≡ list_any (is_far t) bs
near_bases t [] = refl
near_bases t (b ∷ bs) = rw (near_base t b, near_bases t bs) refl

pub entered_soon : (t : ℕ) (g : PlainGroup) → list_any (is_far t) (bases g) ≡ false → waits_soon (pending_on (entered t g)) ≡ true
entered_soon t g h = ap not (ap (list_any (is_far 0)) (bases_entered t g) ∙ near_bases t (bases g) ∙ h)

near_tick : (bs : List PlainBase) (k t : ℕ) → list_any (is_far 0) bs ≡ false → k < length bs → slice_index_or bs k (at_tick t) ≡ at_tick t → t ≤ max_tick
near_tick [] k t h lt e = absurd (omega arith)
near_tick (b ∷ bs) zero t h lt e = at b e h
  where
    at : (b : PlainBase) → b ≡ at_tick t → is_far 0 b || list_any (is_far 0) bs ≡ false → t ≤ max_tick
    at b e h = let f : nat_lt max_tick t || list_any (is_far 0) bs ≡ false = rw e at h in first (nat_lt max_tick t) refl f
      where
        first : (c : Bool) → nat_lt max_tick t ≡ c → c || list_any (is_far 0) bs ≡ false → t ≤ max_tick
        first true p q = cc
        first false p q = grind (arith, nat_tests)
near_tick (b ∷ bs) (suc k) t h lt e = near_tick bs k t (rest (is_far 0 b) h) (omega arith) e
  where
    rest : (c : Bool) → c || list_any (is_far 0) bs ≡ false → list_any (is_far 0) bs ≡ false
    rest true p = cc
    rest false p = p

not_true : (b : Bool) → not b ≡ true → b ≡ false
not_true true h = cc
not_true false h = refl

-- each tick for which a pending thread waits is no greater than the greatest
pub alarm_soon : (k : ℕ) (ts : List PlainThread) (t : ℕ) → Every waits_soon ts → Contains (bases_awaited (pending_from k ts)) (at_tick t) → t ≤ max_tick
alarm_soon k [] t h c = absurd (omega (arith, c.1))
alarm_soon k (running ∷ ts) t h c = alarm_soon (k + 1) ts t h.1 c
alarm_soon k (ended ∷ ts) t h c = alarm_soon (k + 1) ts t h.1 c
alarm_soon k (pending_on g ∷ ts) t h c =
    elim (Contains-append_cases (bases g) (bases_awaited (pending_from (k + 1) ts)) (at_tick t) c) [
      | inl found ↦ near_tick (bases g) found.0 t (not_true _ h.0) found.1 found.2
      | inr found ↦ alarm_soon (k + 1) ts t h.1 found
    ]
