-- What is known of the lights that pending leaves wait for, when threads go and come and lights change.
use Rattle.std.proofs.Common.{◌≡◌, ℕ, ◌+◌, Bool, true, false, not, nat_eq, nat_lt, cond, List, [], ◌∷◌, ◌++◌, refl, ap, sym, subst, arith}
use Rattle.std.specs.Prelude.{All}
use Rattle.std.specs.List.{filter}
use Rattle.std.proofs.lemmas.Bool.Decides.{nat_tests}
use Rattle.std.proofs.lemmas.List.Elements.{All-nil, All-cons, All-head, All-tail, All-append}
use Rattle.std.proofs.lemmas.List.Concat.{flat_map-append}
use Rattle.cml_value.specs.Value.{PlainBase}
use Rattle.cml_value.specs.Group.{PlainGroup, bases}
use Rattle.cml_value.specs.declared.number.Tid.{Tid}
use Rattle.cml_scan.specs.World.{PlainEntry}
use Rattle.cml_scan.specs.Light.{light, is_told}
use Rattle.cml_scan.specs.Scan.{PlainOffer, leaves_from, offers_of, is_among}
use Rattle.cml_scan.specs.Table.{without, with_entry, same_light, AgreeFor}
use Rattle.cml_scan.specs.declared.object.Light.{Light}
use Rattle.cml_scan.specs.declared.object.Light.TheVariants as of
use Rattle.cml_scan.specs.contracts.object.LightPartialEq.TheImpl as derived

-- of some of these threads, where it holds of all
kept : (P : PlainOffer → Type 0) (test : PlainEntry → Bool) (es : List PlainEntry) → All P (offers_of es) → All P (offers_of (filter test es))
kept P test [] all = all
kept P test (e ∷ es) all = at (test e) (kept P test es (back P (leaves_from e.thread 0 (bases e.group)) (offers_of es) all))
  where
    back : (P : PlainOffer → Type 0) (xs ys : List PlainOffer) → All P (xs ++ ys) → All P ys
    back P [] ys all = all
    back P (x ∷ xs) ys all = back P xs ys (All-tail P x (xs ++ ys) all)

    front : (P : PlainOffer → Type 0) (xs ys : List PlainOffer) → All P (xs ++ ys) → All P xs
    front P [] ys all = All-nil P
    front P (x ∷ xs) ys all = All-cons P x xs (All-head P x (xs ++ ys) all) (front P xs ys (All-tail P x (xs ++ ys) all))

    at : (b : Bool) → All P (offers_of (filter test es)) → All P (offers_of (cond b (e ∷ filter test es) (filter test es)))
    at true k = All-append P (leaves_from e.thread 0 (bases e.group)) (offers_of (filter test es)) (front P (leaves_from e.thread 0 (bases e.group)) (offers_of es) all) k
    at false k = k

-- the two say the same of each light that a leaf of the group waits for
abbrev pub AgreeForGroup : PlainGroup → (Light → Bool) → (Light → Bool) → Type 0
AgreeForGroup g told lit = All (λ b. is_told told (light b) ≡ is_told lit (light b)) (bases g)

of_leaves : (P : PlainBase → Type 0) (thread leaf : ℕ) (bs : List PlainBase) → All P bs → All (λ o. P o.base) (leaves_from thread leaf bs)
of_leaves P thread leaf [] all = All-nil (λ (o : PlainOffer). P o.base)
of_leaves P thread leaf (b ∷ bs) all =
    All-cons (λ (o : PlainOffer). P o.base) (record { thread = thread; leaf = leaf; base = b })
    (leaves_from thread (leaf + 1) bs) (All-head P b bs all)
    (of_leaves P thread (leaf + 1) bs (All-tail P b bs all))

-- threads go
pub AgreeFor-without : (gone : List Tid) (es : List PlainEntry) (told lit : Light → Bool) → AgreeFor es told lit → AgreeFor (without gone es) told lit
AgreeFor-without gone es told lit all = kept (λ o. is_told told (light o.base) ≡ is_told lit (light o.base)) (λ e. not (is_among gone e.thread)) es all

-- a thread comes
pub AgreeFor-with_entry : (e : PlainEntry) (es : List PlainEntry) (told lit : Light → Bool) → AgreeFor es told lit → AgreeForGroup e.group told lit → AgreeFor (with_entry e es) told lit
AgreeFor-with_entry e es told lit all own =
    let P : PlainOffer → Type 0 = λ o. is_told told (light o.base) ≡ is_told lit (light o.base) in
    let low : List PlainEntry = filter (λ x. nat_lt x.thread e.thread) es in
    let high : List PlainEntry = filter (λ x. nat_lt e.thread x.thread) es in
    let both : offers_of (low ++ e ∷ high) ≡ offers_of low ++ offers_of (e ∷ high) = flat_map-append (λ (x : PlainEntry). leaves_from x.thread 0 (bases x.group)) low (e ∷ high) in
    subst (All P) (sym both)
    (All-append P (offers_of low) (offers_of (e ∷ high)) (kept P (λ x. nat_lt x.thread e.thread) es all)
    (All-append P (leaves_from e.thread 0 (bases e.group)) (offers_of high)
    (of_leaves (λ b. is_told told (light b) ≡ is_told lit (light b)) e.thread 0 (bases e.group) own) (kept P (λ x. nat_lt e.thread x.thread) es all)))

-- the same light, as a test and as a fact

same_number : (a b : ℕ) → nat_eq a b ≡ true → a ≡ b
same_number a b e = grind (arith, nat_tests)

pub same_light_is : (l m : Light) → same_light l m ≡ true → l ≡ m
same_light_is (of.IVar a) (of.IVar b) e = ap (λ n. of.IVar (record { 0 = n })) (same_number a.0 b.0 e)
same_light_is (of.MVar a) (of.MVar b) e = ap (λ n. of.MVar (record { 0 = n })) (same_number a.0 b.0 e)
same_light_is (of.Mbox a) (of.Mbox b) e = ap (λ n. of.Mbox (record { 0 = n })) (same_number a.0 b.0 e)
same_light_is (of.Port a) (of.Port b) e = ap (λ n. of.Port (record { 0 = n })) (same_number a.0 b.0 e)
same_light_is (of.Joined a) (of.Joined b) e = ap (λ n. of.Joined (record { 0 = n })) (same_number a.0 b.0 e)
same_light_is (of.Nack a) (of.Nack b) e = ap (λ n. of.Nack (record { 0 = n })) (same_number a.0 b.0 e)
same_light_is (of.Alarm a) (of.Alarm b) e = ap of.Alarm (same_number a b e)
same_light_is _ _ e = cc

alike : (a : ℕ) → nat_eq a a ≡ true
alike a = grind (arith, nat_tests)

pub same_light_self : (l : Light) → same_light l l ≡ true
same_light_self (of.IVar a) = alike a.0
same_light_self (of.MVar a) = alike a.0
same_light_self (of.Mbox a) = alike a.0
same_light_self (of.Port a) = alike a.0
same_light_self (of.Joined a) = alike a.0
same_light_self (of.Alarm a) = alike a
same_light_self (of.Nack a) = alike a.0

-- the comparison that is derived on lights is this test
pub light_eq : (l m : Light) → derived.ghosts.eq l m ≡ same_light l m
light_eq (of.IVar a) (of.IVar b) = refl
light_eq (of.MVar a) (of.MVar b) = refl
light_eq (of.Mbox a) (of.Mbox b) = refl
light_eq (of.Port a) (of.Port b) = refl
light_eq (of.Joined a) (of.Joined b) = refl
light_eq (of.Alarm a) (of.Alarm b) = refl
light_eq (of.Nack a) (of.Nack b) = refl
light_eq _ _ = refl
