-- What an event becomes, function by function.
use Rattle.std.proofs.Common.{◌≡◌, ℕ, Option, Some, None, refl, ap, sym, ◌∙◌, subst}
use Rattle.cml_value.specs.Value.{PlainFunction, PlainBase, after_ticks, PlainEvent, never, leaf, choose, wrap, guard, with_nack, scope, PlainEvents, no_events, events_and}
use Rattle.cml_value.specs.Group as group
use Rattle.cml_value.specs.Group.{PlainGroup, PlainGroups, no_groups, groups_and}
use Rattle.cml_group.specs.Force.{PlainNeed, calls, needs_nack, unforced, unforced_of_all, or_else, where_found, replaced, replaced_in_all, given_nack, event_of}
use Rattle.cml_group.proofs.Plugs.{none_in}
use Rattle.cml_step.specs.Forced.{group_of, groups_of}
use Rattle.cml_step.proofs.ForceLemmas.{group_of_event}
use Rattle.cml_book.specs.Entering.{entered_base, entered, entered_all}
use Rattle.cml_rules.specs.Acts.{counted_from, ForcesTo, nothing, base, choice, under_wrap, guarded, nacked, in_branch, AllForceTo, none_left, one_more, NoCall}
use Rattle.cml_rules.specs.Turns.{ForcesInTurn}

-- what asks for this
abbrev place_of : PlainNeed → PlainEvent
place_of (calls f) = guard f
place_of (needs_nack f) = with_nack f

no_need : (a : PlainNeed) → None ≡ Some a → ⊥
no_need a e = cc

need_is : (a b : PlainNeed) → Some a ≡ Some b → b ≡ a
need_is a b e = cc

-- From what the event becomes with an answer in its place, to what it becomes.
either_back : (R : PlainFunction → PlainEvent → Type 0) (now : ℕ) (a : PlainNeed) (new e : PlainEvent) (es : PlainEvents) (o : Option PlainNeed) (gs : PlainGroups)
    → or_else o (unforced_of_all es) ≡ Some a
    → ((g : PlainGroup) → o ≡ Some a → ForcesTo R now (replaced new e) g → ForcesTo R now e g)
    → ((hs : PlainGroups) → unforced_of_all es ≡ Some a → AllForceTo R now (replaced_in_all new es) hs → AllForceTo R now es hs)
    → AllForceTo R now (where_found o (events_and (replaced new e) es) (events_and e (replaced_in_all new es))) gs → AllForceTo R now (events_and e es) gs
either_back R now a new e es (Some b) gs u here later (one_more x xs g hs d ds) = one_more e es g hs (here g u d) ds
either_back R now a new e es None gs u here later (one_more x xs g hs d ds) = one_more e es g hs d (later hs u ds)

mutual
  back : (R : PlainFunction → PlainEvent → Type 0) (now : ℕ) (a : PlainNeed) (new : PlainEvent) → ((g : PlainGroup) → ForcesTo R now new g → ForcesTo R now (place_of a) g)
      → (e : PlainEvent) (g : PlainGroup) → unforced e ≡ Some a → ForcesTo R now (replaced new e) g → ForcesTo R now e g
  back R now a new at never g u d = absurd (no_need a u)
  back R now a new at (leaf b) g u d = absurd (no_need a u)
  back R now a new at (choose es) g u (choice xs gs ds) = choice es gs (all_back R now a new at es gs u ds)
  back R now a new at (wrap e f) g u (under_wrap x y h d) = under_wrap e f h (back R now a new at e h u d)
  back R now a new at (guard f) g u d = subst (λ b. ForcesTo R now (place_of b) g) (need_is (calls f) a u) (at g d)
  back R now a new at (with_nack f) g u d = subst (λ b. ForcesTo R now (place_of b) g) (need_is (needs_nack f) a u) (at g d)
  back R now a new at (scope k e) g u (in_branch j x h d) = in_branch k e h (back R now a new at e h u d)

  all_back : (R : PlainFunction → PlainEvent → Type 0) (now : ℕ) (a : PlainNeed) (new : PlainEvent) → ((g : PlainGroup) → ForcesTo R now new g → ForcesTo R now (place_of a) g)
      → (es : PlainEvents) (gs : PlainGroups) → unforced_of_all es ≡ Some a → AllForceTo R now (replaced_in_all new es) gs → AllForceTo R now es gs
  all_back R now a new at no_events gs u d = absurd (no_need a u)
  all_back R now a new at (events_and e es) gs u d =
      either_back R now a new e es (unforced e) gs u (λ g v x. back R now a new at e g v x) (λ hs v x. all_back R now a new at es hs v x) d

-- And the other way: what takes the place is some event of which this holds.
abbrev Answered : (PlainFunction → PlainEvent → Type 0) → ℕ → (PlainEvent → Type 0) → PlainEvent → PlainGroup → Type 0
Answered R now P e g = (new : PlainEvent) × P new × ForcesTo R now (replaced new e) g

abbrev AllAnswered : (PlainFunction → PlainEvent → Type 0) → ℕ → (PlainEvent → Type 0) → PlainEvents → PlainGroups → Type 0
AllAnswered R now P es gs = (new : PlainEvent) × P new × AllForceTo R now (replaced_in_all new es) gs

abbrev EitherAnswered : (PlainFunction → PlainEvent → Type 0) → ℕ → (PlainEvent → Type 0) → Option PlainNeed → PlainEvent → PlainEvents → PlainGroups → Type 0
EitherAnswered R now P o e es gs = (new : PlainEvent) × P new × AllForceTo R now (where_found o (events_and (replaced new e) es) (events_and e (replaced_in_all new es))) gs

either_forth : (R : PlainFunction → PlainEvent → Type 0) (now : ℕ) (a : PlainNeed) (P : PlainEvent → Type 0) (e : PlainEvent) (es : PlainEvents) (o : Option PlainNeed) (gs : PlainGroups)
    → or_else o (unforced_of_all es) ≡ Some a
    → ((g : PlainGroup) → o ≡ Some a → ForcesTo R now e g → Answered R now P e g)
    → ((hs : PlainGroups) → unforced_of_all es ≡ Some a → AllForceTo R now es hs → AllAnswered R now P es hs)
    → AllForceTo R now (events_and e es) gs → EitherAnswered R now P o e es gs
either_forth R now a P e es (Some b) gs u here later (one_more x xs g hs d ds) = let n = here g u d in (n.0, n.1, one_more (replaced n.0 e) es g hs n.2 ds)
either_forth R now a P e es None gs u here later (one_more x xs g hs d ds) = let n = later hs u ds in (n.0, n.1, one_more e (replaced_in_all n.0 es) g hs d n.2)

mutual
  forth : (R : PlainFunction → PlainEvent → Type 0) (now : ℕ) (a : PlainNeed) (P : PlainEvent → Type 0)
      → ((g : PlainGroup) → ForcesTo R now (place_of a) g → (new : PlainEvent) × P new × ForcesTo R now new g)
      → (e : PlainEvent) (g : PlainGroup) → unforced e ≡ Some a → ForcesTo R now e g → Answered R now P e g
  forth R now a P at never g u d = absurd (no_need a u)
  forth R now a P at (leaf b) g u d = absurd (no_need a u)
  forth R now a P at (choose es) g u (choice xs gs ds) = let n = all_forth R now a P at es gs u ds in (n.0, n.1, choice (replaced_in_all n.0 es) gs n.2)
  forth R now a P at (wrap e f) g u (under_wrap x y h d) = let n = forth R now a P at e h u d in (n.0, n.1, under_wrap (replaced n.0 e) f h n.2)
  forth R now a P at (guard f) g u d = at g (subst (λ b. ForcesTo R now (place_of b) g) (sym (need_is (calls f) a u)) d)
  forth R now a P at (with_nack f) g u d = at g (subst (λ b. ForcesTo R now (place_of b) g) (sym (need_is (needs_nack f) a u)) d)
  forth R now a P at (scope k e) g u (in_branch j x h d) = let n = forth R now a P at e h u d in (n.0, n.1, in_branch k (replaced n.0 e) h n.2)

  all_forth : (R : PlainFunction → PlainEvent → Type 0) (now : ℕ) (a : PlainNeed) (P : PlainEvent → Type 0)
      → ((g : PlainGroup) → ForcesTo R now (place_of a) g → (new : PlainEvent) × P new × ForcesTo R now new g)
      → (es : PlainEvents) (gs : PlainGroups) → unforced_of_all es ≡ Some a → AllForceTo R now es gs → AllAnswered R now P es gs
  all_forth R now a P at no_events gs u d = absurd (no_need a u)
  all_forth R now a P at (events_and e es) gs u d =
      either_forth R now a P e es (unforced e) gs u (λ g v x. forth R now a P at e g v x) (λ hs v x. all_forth R now a P at es hs v x) d

-- what a guard and a withNack become
guard_to : (R : PlainFunction → PlainEvent → Type 0) (now : ℕ) (f : PlainFunction) (g : PlainGroup) → ForcesTo R now (guard f) g → (new : PlainEvent) × R f new × ForcesTo R now new g
guard_to R now f g (guarded h e x r d) = (e, r, d)

-- the call of a withNack's function, in the branch of this nack
abbrev IsGiven : PlainFunction → PlainEvent → Type 0
IsGiven f new = (k : ℕ) × (new ≡ scope k (guard (given_nack k f)))

nack_to : (R : PlainFunction → PlainEvent → Type 0) (now : ℕ) (f : PlainFunction) (g : PlainGroup) → ForcesTo R now (with_nack f) g → (new : PlainEvent) × IsGiven f new × ForcesTo R now new g
nack_to R now f g (nacked k h e x r d) = (scope k (guard (given_nack k f)), (k, refl), in_branch k (guard (given_nack k f)) x (guarded (given_nack k f) e x r d))

nack_from : (R : PlainFunction → PlainEvent → Type 0) (now : ℕ) (k : ℕ) (f : PlainFunction) (g : PlainGroup) → ForcesTo R now (scope k (guard (given_nack k f))) g → ForcesTo R now (with_nack f) g
nack_from R now k f g (in_branch j x h (guarded y e z r d)) = nacked k f e h r d

counted_from_is : (now : ℕ) (b : PlainBase) → counted_from now b ≡ entered_base now b
counted_from_is now (after_ticks d) = refl
counted_from_is now _ = refl

both_none : (a b : Option PlainNeed) → or_else a b ≡ None → (a ≡ None) × (b ≡ None)
both_none (Some x) b e = cc
both_none None b e = (refl, e)

some_left : (a : PlainNeed) → Some a ≡ None → ⊥
some_left a e = cc

-- where nothing is left to be called
mutual
  pub rest_from : (R : PlainFunction → PlainEvent → Type 0) (now : ℕ) (e : PlainEvent) → unforced e ≡ None → ForcesTo R now e (entered now (group_of e))
  rest_from R now never u = nothing
  rest_from R now (leaf b) u = subst (λ c. ForcesTo R now (leaf b) (group.leaf c)) (counted_from_is now b) (base b)
  rest_from R now (choose es) u = choice es (entered_all now (groups_of es)) (all_rest_from R now es u)
  rest_from R now (wrap e f) u = under_wrap e f (entered now (group_of e)) (rest_from R now e u)
  rest_from R now (guard f) u = absurd (some_left _ u)
  rest_from R now (with_nack f) u = absurd (some_left _ u)
  rest_from R now (scope k e) u = in_branch k e (entered now (group_of e)) (rest_from R now e u)

  all_rest_from : (R : PlainFunction → PlainEvent → Type 0) (now : ℕ) (es : PlainEvents) → unforced_of_all es ≡ None → AllForceTo R now es (entered_all now (groups_of es))
  all_rest_from R now no_events u = none_left
  all_rest_from R now (events_and e es) u =
      let two = both_none (unforced e) (unforced_of_all es) u in
      one_more e es (entered now (group_of e)) (entered_all now (groups_of es)) (rest_from R now e two.0) (all_rest_from R now es two.1)

mutual
  pub rest_to : (R : PlainFunction → PlainEvent → Type 0) (now : ℕ) (e : PlainEvent) (g : PlainGroup) → unforced e ≡ None → ForcesTo R now e g → g ≡ entered now (group_of e)
  rest_to R now never g u nothing = refl
  rest_to R now (leaf b) g u (base c) = ap group.leaf (counted_from_is now b)
  rest_to R now (choose es) g u (choice xs gs ds) = ap group.choose (all_rest_to R now es gs u ds)
  rest_to R now (wrap e f) g u (under_wrap x y h d) = ap (λ k. group.wrap k f) (rest_to R now e h u d)
  rest_to R now (guard f) g u d = absurd (some_left _ u)
  rest_to R now (with_nack f) g u d = absurd (some_left _ u)
  rest_to R now (scope k e) g u (in_branch j x h d) = ap (group.scope k) (rest_to R now e h u d)

  all_rest_to : (R : PlainFunction → PlainEvent → Type 0) (now : ℕ) (es : PlainEvents) (gs : PlainGroups) → unforced_of_all es ≡ None → AllForceTo R now es gs → gs ≡ entered_all now (groups_of es)
  all_rest_to R now no_events gs u none_left = refl
  all_rest_to R now (events_and e es) gs u (one_more x xs g hs d ds) =
      let two = both_none (unforced e) (unforced_of_all es) u in
      ap (λ k. groups_and k hs) (rest_to R now e g two.0 d) ∙ ap (groups_and (entered now (group_of e))) (all_rest_to R now es hs two.1 ds)

pub forces_in_turn : (R : PlainFunction → PlainEvent → Type 0) (now : ℕ) (e : PlainEvent) (g : PlainGroup) → ForcesInTurn R now e g
forces_in_turn R now e g = record {
  called = λ f u. (λ d. forth R now (calls f) (R f) (guard_to R now f) e g u d, λ n. back R now (calls f) n.0 (λ h d. guarded f n.0 h n.1 d) e g u n.2);
  given = λ f u. (
    λ d. given_forth f (forth R now (needs_nack f) (IsGiven f) (nack_to R now f) e g u d),
    λ n. back R now (needs_nack f) (scope n.0 (guard (given_nack n.0 f))) (λ h d. nack_from R now n.0 f h d) e g u n.1,
  );
  rests = λ u. (λ d. rest_to R now e g u d, λ same. subst (ForcesTo R now e) (sym same) (rest_from R now e u));
}
  where
    given_forth : (f : PlainFunction) → Answered R now (IsGiven f) e g → (k : ℕ) × ForcesTo R now (replaced (scope k (guard (given_nack k f))) e) g
    given_forth f n = (n.1.0, subst (λ x. ForcesTo R now (replaced x e) g) n.1.1 n.2)

-- a group, where no function is called: it has nothing left, and enters
pub enters_from : (now : ℕ) (g : PlainGroup) → ForcesTo NoCall now (event_of g) (entered now g)
enters_from now g = subst (λ h. ForcesTo NoCall now (event_of g) (entered now h)) (group_of_event g) (rest_from NoCall now (event_of g) (none_in g))

pub enters_to : (now : ℕ) (g h : PlainGroup) → ForcesTo NoCall now (event_of g) h → h ≡ entered now g
enters_to now g h d = rest_to NoCall now (event_of g) h (none_in g) d ∙ ap (entered now) (group_of_event g)
