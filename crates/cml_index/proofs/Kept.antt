-- The objects on which two threads may meet, when leaves come or go.
use Rattle.std.proofs.Common.{◌≡◌, ℕ, Bool, true, false, ◌&&◌, ◌||◌, nat_lt, List, [], ◌∷◌, Option, ◌++◌, length, ◌+◌, ◌≤◌, refl, ap, sym, ◌∙◌, arith}
use Rattle.std.specs.List.{filter}
use Rattle.std.proofs.lemmas.List.{length-append}
use Rattle.cml_value.specs.declared.number.Tid.{Tid}
use Rattle.cml_scan.specs.declared.meet.Place.{Place}
use Rattle.cml_scan.specs.Order.{before, Every, Ascends}
use Rattle.cml_objects.specs.Lanes.{is_others, run, with_run}
use Rattle.cml_objects.specs.declared.pairing.PairedId.{PairedId}
use Rattle.cml_index.proofs.Walks.{with_none}
use Rattle.std.proofs.lemmas.Bool.Decides.{nat_tests}
use Rattle.cml_index.specs.declared.slot.Slot.TheVariants.{Side}
use Rattle.cml_index.specs.Live.{may_meet, have_side}
use Rattle.cml_index.specs.Slots.{is_slot, has_slot}
use Rattle.cml_index.specs.declared.slot.Slot.{Slot}

-- an object is kept right when one more of the leaves is done, where it was not there without need
pub cut_more : (here later left old new on : Bool) → left ≡ here || later → later ≡ false
    → (here ≡ true → new ≡ old && on) → (here ≡ false → new ≡ old) → (left ≡ false → old ≡ on)
    → (on ≡ true → old ≡ true) → new ≡ on
cut_more true later left old new on e f one two was over = one refl ∙ at old on over
  where
    at : (a b : Bool) → (b ≡ true → a ≡ true) → a && b ≡ b
    at true b over = refl
    at false true over = over refl
    at false false over = refl
cut_more false later left old new on e f one two was over = two refl ∙ was (e ∙ f)

pub add_more : (here later left old new on : Bool) → left ≡ here || later → later ≡ false
    → (here ≡ true → new ≡ old || on) → (here ≡ false → new ≡ old) → (left ≡ false → old ≡ on)
    → (on ≡ false → old ≡ false) → new ≡ on
add_more true later left old new on e f one two was under = one refl ∙ at old on under
  where
    at : (a b : Bool) → (b ≡ false → a ≡ false) → a || b ≡ b
    at true true under = refl
    at true false under = under refl
    at false b under = refl
add_more false later left old new on e f one two was under = two refl ∙ was (e ∙ f)

-- one that is there with need stays
pub cut_over : (here old new on : Bool) → (here ≡ true → new ≡ old && on) → (here ≡ false → new ≡ old) → (on ≡ true → old ≡ true) → on ≡ true → new ≡ true
cut_over true old new on one two over is = one refl ∙ rw (over is, is) refl
cut_over false old new on one two over is = two refl ∙ over is

-- one that is not there without need is not put in
pub add_under : (here old new on : Bool) → (here ≡ true → new ≡ old || on) → (here ≡ false → new ≡ old) → (on ≡ false → old ≡ false) → on ≡ false → new ≡ false
add_under true old new on one two under is = one refl ∙ rw (under is, is) refl
add_under false old new on one two under is = two refl ∙ under is

-- a fact of an object holds when one more of the leaves is done, where it holds after that leaf and held before
pub counted_more : {P : Type 0} (here later left : Bool) → left ≡ here || later → later ≡ false → (here ≡ true → P) → (here ≡ false → left ≡ false → P) → P
counted_more true later left e f one two = one refl
counted_more false later left e f one two = two refl (e ∙ f)

-- one that is put in is there with need
pub came_counted : {P : Type 0} (old new on : Bool) → new ≡ old || on → (on ≡ false → old ≡ false) → new ≡ true → (on ≡ true → P) → P
came_counted old new true e under is one = one refl
came_counted old new false e under is one = let none : old ≡ false = under refl in let no_ : true ≡ false = sym is ∙ e ∙ ap (λ b. b || false) none in cc

-- no leaf stands on either side
pub no_sides : (n : PairedId) (ss : List (Option Slot)) → have_side n ss ≡ false → (has_slot (Side true n) ss ≡ false) × (has_slot (Side false n) ss ≡ false)
no_sides n [] e = (refl, refl)
no_sides n (s ∷ ss) e = at (is_slot (Side true n) s) (is_slot (Side false n) s) e (no_sides n ss)
  where
    at : (a b : Bool) → (a || b) || have_side n ss ≡ false
        → (have_side n ss ≡ false → (has_slot (Side true n) ss ≡ false) × (has_slot (Side false n) ss ≡ false))
        → (a || has_slot (Side true n) ss ≡ false) × (b || has_slot (Side false n) ss ≡ false)
    at true b e h = cc
    at false true e h = cc
    at false false e h = h e

-- where offers only went, two may meet only where they could
pub meet_less : (l : Bool) (a b c d : ℕ) → c ≤ a → d ≤ b → may_meet l c d ≡ true → may_meet l a b ≡ true
meet_less true a b c d x y e = at a c x e
  where
    at : (a c : ℕ) → c ≤ a → nat_lt 1 c ≡ true → nat_lt 1 a ≡ true
    at a c x e = grind (arith, nat_tests)
meet_less false a b c d x y e = at a b c d x y e
  where
    at : (a b c d : ℕ) → c ≤ a → d ≤ b → nat_lt 0 c && nat_lt 0 d ≡ true → nat_lt 0 a && nat_lt 0 b ≡ true
    at a b c d x y e = grind (arith, nat_tests)

-- where offers only came, two may meet where they could
pub meet_more : (l : Bool) (a b c d : ℕ) → a ≤ c → b ≤ d → may_meet l c d ≡ false → may_meet l a b ≡ false
meet_more true a b c d x y e = at a c x e
  where
    at : (a c : ℕ) → a ≤ c → nat_lt 1 c ≡ false → nat_lt 1 a ≡ false
    at a c x e = grind (arith, nat_tests)
meet_more false a b c d x y e = at a b c d x y e
  where
    at : (a b c d : ℕ) → a ≤ c → b ≤ d → nat_lt 0 c && nat_lt 0 d ≡ false → nat_lt 0 a && nat_lt 0 b ≡ false
    at a b c d x y e = grind (arith, nat_tests)

-- a lane is no shorter with the offers of one more thread
pub with_longer : (tid : Tid) (leaves : List ℕ) (ps : List Place) → Ascends before ps → Every (is_others tid) ps → length ps ≤ length (with_run tid leaves ps)
with_longer tid leaves ps up away =
    let low = filter (λ (q : Place). nat_lt q.tid.0 tid.0) ps in
    let high = filter (λ (q : Place). nat_lt tid.0 q.tid.0) ps in
    let whole : length (low ++ high) ≡ length ps = ap length (with_none tid ps up away) in
    let a : length (low ++ high) ≡ length low + length high = length-append low high in
    let b : length (low ++ (run tid leaves ++ high)) ≡ length low + length (run tid leaves ++ high) = length-append low (run tid leaves ++ high) in
    let c : length (run tid leaves ++ high) ≡ length (run tid leaves) + length high = length-append (run tid leaves) high in
    omega (arith, whole, a, b, c)
