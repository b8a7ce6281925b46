-- What is done at a stand, done twice.
use Rattle.std.proofs.Common.{◌≡◌, ◌≤◌, ℕ, suc, Bool, true, false, nat_lt, [], length, Option, is_some, cond, ◌+◌, refl, ap, sym, subst, ◌∙◌, arith}
use Rattle.cml_value.specs.declared.number.Tid.{Tid}
use Rattle.cml_index.specs.declared.stand.LaneState.{LaneState}
use Rattle.cml_scan.specs.Order.{Ascends}
use Rattle.cml_index.specs.Stands.{HasCome, HasForgone, HasGone, CountsOneMore, CanCome, joined, after_going, places_in, late_in, going_in, room_in}

pub come_twice : (tid : Tid) (a b c : Option LaneState) → HasCome tid a b → HasCome tid b c → HasCome tid a c
come_twice tid a b c x y = record {
  places = y.places ∙ ap (λ ls. joined tid ls (places_in b)) x.late ∙ x.places;
  late = y.late;
  going = y.going ∙ x.going;
}

pub forgo_twice : (a b c : Option LaneState) → HasForgone a b → HasForgone b c → HasForgone a c
forgo_twice a b c x y = record {
  places = y.places ∙ x.places;
  late = y.late;
  going = y.going ∙ x.going;
  room = y.room ∙ x.room;
}

pub go_twice : (tid : Tid) (a b c : Option LaneState) → HasGone tid a b → HasGone tid b c → HasGone tid a c
go_twice tid a b c x y = record {
  places = y.places ∙ ap (λ n. after_going tid n (places_in b)) x.going ∙ x.places;
  late = y.late ∙ x.late;
  going = y.going;
  room = omega (arith, x.room, y.room);
}

-- where no leaf is to come, none has to
pub none_comes : (tid : Tid) (s : Option LaneState) → late_in s ≡ [] → CanCome tid s
none_comes tid s e = record {
  room = let none : length (late_in s) ≡ 0 = ap length e in omega (arith, none);
  new = λ some. let none : length (late_in s) ≡ 0 = ap length e in absurd (omega (arith, none, some));
  ascend = subst (Ascends nat_lt) (sym e) tt;
}

-- so many leaves are counted where a stand was made
pub record IsCountedTo (old new : Option LaneState) (n left_ all : ℕ) : Type 0 where
  pub made : is_some new ≡ is_some old
  pub places : places_in new ≡ places_in old
  pub late : late_in new ≡ late_in old
  pub room : room_in new ≡ room_in old
  pub few : going_in new ≤ n
  pub none : is_some old ≡ false → going_in new ≡ 0
  pub going : is_some old ≡ true → going_in new + left_ ≡ all

pub counted_more : (a b c : Option LaneState) (n m l all : ℕ) → m ≡ suc l → IsCountedTo a b n m all → CountsOneMore b c → IsCountedTo a c (n + 1) l all
counted_more a b c n m l all is x y = record {
  made = y.made ∙ x.made;
  places = y.places ∙ x.places;
  late = y.late ∙ x.late;
  room = y.room ∙ x.room;
  few = few (is_some b) refl;
  none = λ e. y.going ∙ ap (λ s. cond s (going_in b + 1) 0) (x.made ∙ e);
  going = λ e. let more : going_in c ≡ going_in b + 1 = y.going ∙ ap (λ s. cond s (going_in b + 1) 0) (x.made ∙ e) in let so_far = x.going e in omega (arith, more, so_far, is);
}
  where
    few : (s : Bool) → is_some b ≡ s → going_in c ≤ n + 1
    few true e = let more : going_in c ≡ going_in b + 1 = y.going ∙ ap (λ s. cond s (going_in b + 1) 0) e in omega (arith, more, x.few)
    few false e = let more : going_in c ≡ 0 = y.going ∙ ap (λ s. cond s (going_in b + 1) 0) e in omega (arith, more)

pub counted_same : (a b c : Option LaneState) (n m l all : ℕ) → m ≡ l → c ≡ b → IsCountedTo a b n m all → IsCountedTo a c (n + 1) l all
counted_same a b c n m l all is same x = subst (λ s. IsCountedTo a s (n + 1) l all) (sym same) (record {
  made = x.made;
  places = x.places;
  late = x.late;
  room = x.room;
  few = omega (arith, x.few);
  none = x.none;
  going = λ e. let so_far = x.going e in omega (arith, so_far, is);
})
