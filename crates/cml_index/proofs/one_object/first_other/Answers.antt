use Rattle.std.proofs.Common.{◌≡◌, ◌≢◌, ◌∙◌, ◌+◌, ◌<◌, ◌≤◌, ℕ, true, false, nat_eq, nat_lt, not, cond, List, [], ◌∷◌, Some, length, get_or, refl, ap, sym, arith}
use Rattle.std.specs.Prelude.{slice_get}
use Rattle.std.specs.List.{filter}
use Rattle.std.proofs.lemmas.Bool.Decides.{nat_tests}
use Rattle.std.proofs.lemmas.Option.{slice_get_read}
use Rattle.cml_value.specs.declared.number.Tid.{Tid}
use Rattle.cml_scan.specs.declared.meet.Place.{Place}
use Rattle.cml_objects.specs.Lanes.{is_own, is_others, others}
use Rattle.cml_index.proofs.Parted.{filter_fewer}
use Rattle.cml_index.proofs.Others.{any_default, other_behind}
use Rattle.cml_index.proofs.OneObject.{behind_at, own_and_others}
use Rattle.cml_index.proofs.one_object.first_other.Goals as goal

apart : (a t : ℕ) → a ≢ t → not (nat_eq t a) ≡ true
apart a t e = grind (arith, nat_tests)

alike : (a t : ℕ) → a ≡ t → nat_eq t a ≡ true
alike a t e = grind (arith, nat_tests)

not_below : (a t : ℕ) → a ≡ t → nat_lt a t ≡ false
not_below a t e = grind (arith, nat_tests)

-- the first offer, where it is another thread's
first_is : (tid : Tid) (ps : List Place) (d : Place) → 0 < length ps → (get_or ps 0 d).tid.0 ≢ tid.0 → slice_get (others tid ps) 0 ≡ Some (get_or ps 0 d)
first_is tid [] d some off = absurd (omega (arith, some))
first_is tid (p ∷ ps) d some off = ap (λ b. slice_get (cond b (p ∷ filter (is_others tid) ps) (filter (is_others tid) ps)) 0) (apart p.tid.0 tid.0 off)

-- the thread has an offer there, where the first one is its own
own_some : (tid : Tid) (ps : List Place) (d : Place) → 0 < length ps → (get_or ps 0 d).tid.0 ≡ tid.0 → 0 < length (filter (is_own tid) ps)
own_some tid [] d some is = absurd (omega (arith, some))
own_some tid (p ∷ ps) d some is = rw (alike p.tid.0 tid.0 is) (omega arith)

enough : (tid : Tid) (ps : List Place) → 0 < length (others tid ps) → 0 < length ps
enough tid ps some = let few : length (others tid ps) ≤ length ps = filter_fewer (is_others tid) ps in omega (arith, few, some)

pub look-place-requires : goal.look-place-requires
look-place-requires c = enough c.args.tid c.args.lane.now.places c.requires.some

pub returns-then-place-tid-clause-value : goal.returns-then-place-tid-clause-value
returns-then-place-tid-clause-value c =
    let ps = c.args.lane.now.places in
    let d = c.look-place.result in
    first_is c.args.tid ps d (enough c.args.tid ps c.requires.some) (λ is. c.if-place-tid.true (ap (λ (p : Place). p.tid.0) c.look-place.ensures.value ∙ is)) ∙ ap Some (sym c.look-place.ensures.value)

pub returns-then-place-tid-clause-cost : goal.returns-then-place-tid-clause-cost
returns-then-place-tid-clause-cost c =
    let ps = c.args.lane.now.places in
    let few = behind_at ps 0 c.look-place.result c.requires.sorted (slice_get_read ps (length ps) 0 c.look-place.result refl (enough c.args.tid ps c.requires.some) c.look-place.ensures.value) in
    omega (arith, few, c.look-place.ensures.most)

pub returns-then-place-tid-clause-ahead : goal.returns-then-place-tid-clause-ahead
returns-then-place-tid-clause-ahead c =
    let ps = c.args.lane.now.places in
    let few = behind_at ps 0 c.look-place.result c.requires.sorted (slice_get_read ps (length ps) 0 c.look-place.result refl (enough c.args.tid ps c.requires.some) c.look-place.ensures.value) in
    omega (arith, few)

-- how many offers the thread has there
pub record IsOwn (tid : Tid) (ps : List Place) (own : ℕ) : Type 0 where
  pub whole : own + length (others tid ps) ≡ length ps
  pub some : 0 < own

own_is : (tid : Tid) (ps : List Place) (d : Place) (own : ℕ) → own ≡ length (filter (is_own tid) ps) → 0 < length (others tid ps) → (get_or ps 0 d).tid.0 ≡ tid.0 → IsOwn tid ps own
own_is tid ps d own is some its =
    let sum = own_and_others tid ps in
    let one = own_some tid ps d (enough tid ps some) its in
    record { whole = omega (arith, is, sum); some = omega (arith, is, one) }

pub look-requires : goal.look-requires
look-requires c = let o = own_is c.args.tid c.args.lane.now.places c.look-place.result c.own_len-own.result
    (c.own_len-own.ensures ∙ ap (λ qs. length (filter (is_own c.args.tid) qs)) (sym c.requires.there)) c.requires.some
    (ap (λ (p : Place). p.tid.0) (sym c.look-place.ensures.value) ∙ c.if-place-tid.false) in omega (arith, o.whole, c.requires.some)

pub returns-clause-value : goal.returns-clause-value
returns-clause-value c =
    let ps = c.args.lane.now.places in
    let tid = c.args.tid in
    let own = c.own_len-own.result in
    let e = c.look.result in
    let o = own_is c.args.tid c.args.lane.now.places c.look-place.result c.own_len-own.result
    (c.own_len-own.ensures ∙ ap (λ qs. length (filter (is_own c.args.tid) qs)) (sym c.requires.there)) c.requires.some
    (ap (λ (p : Place). p.tid.0) (sym c.look-place.ensures.value) ∙ c.if-place-tid.false) in
    let its : (get_or ps 0 e).tid.0 ≡ tid.0 = ap (λ (p : Place). p.tid.0)
    (any_default ps 0 e c.look-place.result (enough tid ps c.requires.some) ∙ sym c.look-place.ensures.value)
    ∙ c.if-place-tid.false in
    let same : own ≡ 0 + own = omega arith in
    slice_get_read (others tid ps) _ 0 e refl c.requires.some
    (c.look.ensures.value ∙ ap (λ m. get_or ps m e) same ∙ sym (other_behind tid ps own 0 e c.requires.sorted o.whole c.requires.some (not_below (get_or ps 0 e).tid.0 tid.0 its)))

pub returns-clause-cost : goal.returns-clause-cost
returns-clause-cost c =
    let ps = c.args.lane.now.places in
    let o = own_is c.args.tid c.args.lane.now.places c.look-place.result c.own_len-own.result
    (c.own_len-own.ensures ∙ ap (λ qs. length (filter (is_own c.args.tid) qs)) (sym c.requires.there)) c.requires.some
    (ap (λ (p : Place). p.tid.0) (sym c.look-place.ensures.value) ∙ c.if-place-tid.false) in
    let few = behind_at ps c.own_len-own.result c.look.result c.requires.sorted
    (slice_get_read ps (length ps) c.own_len-own.result c.look.result refl
    (omega (arith, o.whole, c.requires.some)) c.look.ensures.value) in
    omega (arith, few, c.look-place.ensures.most, c.look.ensures.most, o.some)

pub returns-clause-ahead : goal.returns-clause-ahead
returns-clause-ahead c =
    let ps = c.args.lane.now.places in
    let o = own_is c.args.tid c.args.lane.now.places c.look-place.result c.own_len-own.result
    (c.own_len-own.ensures ∙ ap (λ qs. length (filter (is_own c.args.tid) qs)) (sym c.requires.there)) c.requires.some
    (ap (λ (p : Place). p.tid.0) (sym c.look-place.ensures.value) ∙ c.if-place-tid.false) in
    let few = behind_at ps c.own_len-own.result c.look.result c.requires.sorted
    (slice_get_read ps (length ps) c.own_len-own.result c.look.result refl
    (omega (arith, o.whole, c.requires.some)) c.look.ensures.value) in
    omega (arith, few)
