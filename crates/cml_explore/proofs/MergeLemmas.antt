-- What is merged of two parts is what one part after the other makes.
use Rattle.std.proofs.Common.{◌≡◌, ℕ, suc, ◌+◌, Bool, true, false, if◌then◌else◌, ◌||◌, List, [], ◌∷◌, ◌++◌, length, refl, sym, ap, ◌∙◌, arith}
use Rattle.std.specs.Prelude.{nat_lt, nat_eq}
use Rattle.std.specs.List.{fold, list_any}
use Rattle.std.specs.Cmp.{IsEquivalence, nat_eq_equiv}
use Rattle.std.specs.Cmp.Lexicographic.{pointwise, lists_equiv}
use Rattle.std.proofs.lemmas.Bool.Decides.{nat_tests}
use Rattle.std.proofs.lemmas.List.Folds.{list_any-append}
use Rattle.std.proofs.lemmas.List.Sums.{fold-append}
use Rattle.cml_schedule.specs.declared.item.Item.{Item}
use Rattle.cml_facts.proofs.OrLemmas.{or_false}
use Rattle.cml_facts.specs.declared.fault.detail.Detail.{Detail}
use Rattle.cml_facts.specs.contracts.fault.detail.DetailEq.TheImpl.Laws.{laws-law}
use Rattle.cml_facts.specs.Details.{alike}
use Rattle.cml_explore.specs.Classes.{Finish, PlainSummary, PlainClass, with_digest, shorter, first_run, grown, classed, classed_all, classes_of}
use Rattle.cml_explore.specs.Merges.{both_summaries, summary_alone, class_joined, classes_merged}

alike_laws : IsEquivalence alike
alike_laws = lists_equiv laws-law

digest_laws : IsEquivalence (pointwise nat_eq)
digest_laws = lists_equiv nat_eq_equiv

if_same : {A : Type 0} (b : Bool) (x y : A) → b ≡ true → (if b then x else y) ≡ x
if_same true x y e = refl
if_same false x y e = cc

if_other : {A : Type 0} (b : Bool) (x y : A) → b ≡ false → (if b then x else y) ≡ y
if_other true x y e = cc
if_other false x y e = refl

or_right : (a b : Bool) → b ≡ true → a || b ≡ true
or_right true b e = refl
or_right false b e = e

or_left : (a b : Bool) → a ≡ true → a || b ≡ true
or_left true b e = refl
or_left false b e = cc

neither : (a b : Bool) → a ≡ false → b ≡ false → a || b ≡ false
neither true b e f = cc
neither false b e f = f

-- ---- digests

-- a digest that is there stays
stays_if : (b : Bool) (x : List ℕ) (os more : List (List ℕ)) → list_any (pointwise nat_eq x) os ≡ true → list_any (pointwise nat_eq x) (if b then os else os ++ more) ≡ true
stays_if true x os more there = there
stays_if false x os more there = list_any-append (pointwise nat_eq x) os more ∙ or_left _ _ there

stays_all : (x : List ℕ) (ds os : List (List ℕ)) → list_any (pointwise nat_eq x) os ≡ true → list_any (pointwise nat_eq x) (fold with_digest os ds) ≡ true
stays_all x [] os there = there
stays_all x (d ∷ ds) os there = stays_all x ds (with_digest os d) (stays_if (list_any (pointwise nat_eq d) os) x os (d ∷ []) there)

any_same : (x d : List ℕ) (os : List (List ℕ)) → pointwise nat_eq x d ≡ true → list_any (pointwise nat_eq x) os ≡ list_any (pointwise nat_eq d) os
any_same x d [] same = refl
any_same x d (o ∷ os) same = ap (λ b. b || list_any (pointwise nat_eq x) os) (digest_laws.congr x d o same) ∙ ap (λ b. pointwise nat_eq d o || b) (any_same x d os same)

-- a digest that comes is there
comes_if : (b : Bool) (x d : List ℕ) (os : List (List ℕ)) → pointwise nat_eq x d ≡ true → list_any (pointwise nat_eq d) os ≡ b → list_any (pointwise nat_eq x) (if b then os else os ++ d ∷ []) ≡ true
comes_if true x d os same there = any_same x d os same ∙ there
comes_if false x d os same there = list_any-append (pointwise nat_eq x) os (d ∷ []) ∙ or_right _ _ (or_left _ false same)

there_if : (b : Bool) (x d : List ℕ) (ds os : List (List ℕ)) → pointwise nat_eq x d ≡ b → b || list_any (pointwise nat_eq x) ds ≡ true
    → (list_any (pointwise nat_eq x) ds ≡ true → list_any (pointwise nat_eq x) (fold with_digest (with_digest os d) ds) ≡ true)
    → list_any (pointwise nat_eq x) (fold with_digest (with_digest os d) ds) ≡ true
there_if true x d ds os same among rest = stays_all x ds (with_digest os d) (comes_if (list_any (pointwise nat_eq d) os) x d os same refl)
there_if false x d ds os same among rest = rest among

-- what is among the digests is there once they have come
there_all : (x : List ℕ) (ds os : List (List ℕ)) → list_any (pointwise nat_eq x) ds ≡ true → list_any (pointwise nat_eq x) (fold with_digest os ds) ≡ true
there_all x [] os among = cc
there_all x (d ∷ ds) os among = there_if (pointwise nat_eq x d) x d ds os refl among (there_all x ds (with_digest os d))

digest_last_if : (b : Bool) (os ds : List (List ℕ)) (x : List ℕ) → list_any (pointwise nat_eq x) ds ≡ b → fold with_digest os (if b then ds else ds ++ x ∷ []) ≡ with_digest (fold with_digest os ds) x
digest_last_if true os ds x among = sym (if_same (list_any (pointwise nat_eq x) (fold with_digest os ds)) _ _ (there_all x ds os among))
digest_last_if false os ds x among = fold-append with_digest os ds (x ∷ [])

-- ---- schedules

shorter_if : (p q : Bool) (a b c : List Item) → nat_lt (length c) (length b) ≡ p → nat_lt (length b) (length a) ≡ q
    → shorter a (if p then c else b) ≡ shorter (if q then b else a) c
shorter_if true true a b c cb ba =
    let ca : nat_lt (length c) (length a) ≡ true = grind (arith, nat_tests) in
    if_same (nat_lt (length c) (length a)) c a ca ∙ sym (if_same (nat_lt (length c) (length b)) c b cb)
shorter_if true false a b c cb ba = refl
shorter_if false true a b c cb ba = if_same (nat_lt (length b) (length a)) b a ba ∙ sym (if_other (nat_lt (length c) (length b)) c b cb)
shorter_if false false a b c cb ba =
    let ca : nat_lt (length c) (length a) ≡ false = grind (arith, nat_tests) in
    if_other (nat_lt (length b) (length a)) b a ba ∙ sym (if_other (nat_lt (length c) (length a)) c a ca)

-- ---- classes

abbrev the_summary : ℕ → ℕ → ℕ → List (List ℕ) → List Item → PlainSummary
the_summary r f i os s = record { runs = r; first = f; items = i; outputs = os; shortest = s }

same_summary : (r q f i : ℕ) (os ps : List (List ℕ)) (s t : List Item) → r ≡ q → os ≡ ps → s ≡ t → the_summary r f i os s ≡ the_summary q f i ps t
same_summary r q f i os ps s t e g h = cc

-- what is kept of both, where the later one has one run more
both_last : (t u : PlainSummary) (e : Finish) → both_summaries t (grown u e) ≡ grown (both_summaries t u) e
both_last t u e =
    same_summary _ _ _ _ _ _ _ _ (omega arith) (digest_last_if (list_any (pointwise nat_eq e.digest) u.outputs) t.outputs u.outputs e.digest refl)
    (shorter_if (nat_lt (length e.items) (length u.shortest)) (nat_lt (length u.shortest) (length t.shortest)) t.shortest u.shortest e.items refl refl)

-- what is kept of a class by itself, which has one run more
alone_last : (t : PlainSummary) (e : Finish) → grown (summary_alone t) e ≡ summary_alone (grown t e)
alone_last t e = same_summary _ _ _ _ _ _ _ _ refl (sym (digest_last_if (list_any (pointwise nat_eq e.digest) t.outputs) [] t.outputs e.digest refl)) refl

abbrev the_class : List Detail → PlainSummary → PlainClass
the_class ds t = record { details = ds; summary = t }

abbrev first_of : ℕ → Finish → PlainClass
first_of n e = the_class e.details (first_run n e)

abbrev grown_class : PlainClass → Finish → PlainClass
grown_class d e = the_class d.details (grown d.summary e)

abbrev both_classes : PlainClass → PlainClass → PlainClass
both_classes c d = the_class c.details (both_summaries c.summary d.summary)

-- a class of one run joins as the run does
joined_first : (n : ℕ) (e : Finish) (cs : List PlainClass) → class_joined cs (first_of n e) ≡ classed n e cs
joined_first n e [] = refl
joined_first n e (c ∷ cs) = ap (λ rest. if alike e.details c.details then grown_class c e ∷ cs else c ∷ rest) (joined_first n e cs)

joined_grown_if : (b : Bool) (n : ℕ) (e : Finish) (d c : PlainClass) (cs : List PlainClass) → alike e.details d.details ≡ true → alike d.details c.details ≡ b
    → classed n e (class_joined cs d) ≡ class_joined cs (grown_class d e)
    → classed n e (if b then both_classes c d ∷ cs else c ∷ class_joined cs d) ≡ (if b then both_classes c (grown_class d e) ∷ cs else c ∷ class_joined cs (grown_class d e))
joined_grown_if true n e d c cs same is rest =
    if_same (alike e.details c.details) _ _ (alike_laws.congr e.details d.details c.details same ∙ is) ∙ ap (λ t. the_class c.details t ∷ cs) (sym (both_last c.summary d.summary e))
joined_grown_if false n e d c cs same is rest =
    if_other (alike e.details c.details) _ _ (alike_laws.congr e.details d.details c.details same ∙ is) ∙ ap (λ l. c ∷ l) rest

-- one run more of a class that has joined
joined_grown : (n : ℕ) (e : Finish) (d : PlainClass) (cs : List PlainClass) → alike e.details d.details ≡ true → classed n e (class_joined cs d) ≡ class_joined cs (grown_class d e)
joined_grown n e d [] same = if_same (alike e.details d.details) _ _ same ∙ ap (λ t. the_class d.details t ∷ []) (alone_last d.summary e)
joined_grown n e d (c ∷ cs) same = joined_grown_if (alike d.details c.details) n e d c cs same refl (joined_grown n e d cs same)

crosses_if : (a b : Bool) (n : ℕ) (e : Finish) (f c : PlainClass) (cs : List PlainClass) → alike e.details f.details ≡ false → alike e.details c.details ≡ a → alike f.details c.details ≡ b
    → a || list_any (λ (x : PlainClass). alike e.details x.details) cs ≡ true
    → (list_any (λ (x : PlainClass). alike e.details x.details) cs ≡ true → classed n e (class_joined cs f) ≡ class_joined (classed n e cs) f)
    → classed n e (if b then both_classes c f ∷ cs else c ∷ class_joined cs f) ≡ class_joined (if a then grown_class c e ∷ cs else c ∷ classed n e cs) f
crosses_if true true n e f c cs other ea fb some rest =
    let same : alike e.details f.details ≡ true = alike_laws.congr e.details c.details f.details ea ∙ (alike_laws.symm c.details f.details ∙ fb) in
    cc
crosses_if true false n e f c cs other ea fb some rest = if_same (alike e.details c.details) _ _ ea ∙ sym (if_other (alike f.details c.details) _ _ fb)
crosses_if false true n e f c cs other ea fb some rest = if_other (alike e.details c.details) _ _ ea ∙ sym (if_same (alike f.details c.details) _ _ fb)
crosses_if false false n e f c cs other ea fb some rest =
    if_other (alike e.details c.details) _ _ ea ∙ (ap (λ l. c ∷ l) (rest some) ∙ sym (if_other (alike f.details c.details) _ _ fb))

-- a run of a class that is there, and a class that it is not of: either may come first
crosses : (n : ℕ) (e : Finish) (f : PlainClass) (cs : List PlainClass) → alike e.details f.details ≡ false → list_any (λ (x : PlainClass). alike e.details x.details) cs ≡ true
    → classed n e (class_joined cs f) ≡ class_joined (classed n e cs) f
crosses n e f [] other some = cc
crosses n e f (c ∷ cs) other some =
    crosses_if (alike e.details c.details) (alike f.details c.details) n e f c cs other refl refl some (crosses n e f cs other)

either : (a b c : Bool) → a || b ≡ true → (b ≡ true → c ≡ true) → a || c ≡ true
either true b c some rest = refl
either false b c some rest = rest some

joined_any_if : (b : Bool) (ds : List Detail) (f c : PlainClass) (cs : List PlainClass) → list_any (λ (x : PlainClass). alike ds x.details) (c ∷ cs) ≡ true
    → (list_any (λ (x : PlainClass). alike ds x.details) cs ≡ true → list_any (λ (x : PlainClass). alike ds x.details) (class_joined cs f) ≡ true)
    → list_any (λ (x : PlainClass). alike ds x.details) (if b then both_classes c f ∷ cs else c ∷ class_joined cs f) ≡ true
joined_any_if true ds f c cs some rest = some
joined_any_if false ds f c cs some rest = either (alike ds c.details) _ _ some rest

-- what is there stays, once a class has joined
joined_any : (ds : List Detail) (f : PlainClass) (cs : List PlainClass)
    → list_any (λ (x : PlainClass). alike ds x.details) cs ≡ true
    → list_any (λ (x : PlainClass). alike ds x.details) (class_joined cs f) ≡ true
joined_any ds f [] some = cc
joined_any ds f (c ∷ cs) some = joined_any_if (alike f.details c.details) ds f c cs some (joined_any ds f cs)

joined_has_if : (b : Bool) (ds : List Detail) (d c : PlainClass) (cs : List PlainClass) → alike ds d.details ≡ true → alike d.details c.details ≡ b
    → list_any (λ (x : PlainClass). alike ds x.details) (class_joined cs d) ≡ true
    → list_any (λ (x : PlainClass). alike ds x.details) (if b then both_classes c d ∷ cs else c ∷ class_joined cs d) ≡ true
joined_has_if true ds d c cs same is rest = or_left _ _ (alike_laws.congr ds d.details c.details same ∙ is)
joined_has_if false ds d c cs same is rest = or_right _ _ rest

-- and the class is there
joined_has : (ds : List Detail) (d : PlainClass) (cs : List PlainClass) → alike ds d.details ≡ true → list_any (λ (x : PlainClass). alike ds x.details) (class_joined cs d) ≡ true
joined_has ds d [] same = or_left _ _ same
joined_has ds d (c ∷ cs) same = joined_has_if (alike d.details c.details) ds d c cs same refl (joined_has ds d cs same)

crosses_all : (n : ℕ) (e : Finish) (fs cs : List PlainClass) → list_any (λ (x : PlainClass). alike e.details x.details) fs ≡ false → list_any (λ (x : PlainClass). alike e.details x.details) cs ≡ true
    → classed n e (fold class_joined cs fs) ≡ fold class_joined (classed n e cs) fs
crosses_all n e [] cs none some = refl
crosses_all n e (f ∷ fs) cs none some =
    crosses_all n e fs (class_joined cs f) (or_false (alike e.details f.details) _ none).1 (joined_any e.details f cs some)
    ∙ ap (λ l. fold class_joined l fs) (crosses n e f cs (or_false (alike e.details f.details) _ none).0 some)

-- no two of the classes are alike
abbrev Apart : List PlainClass → Type 0
Apart [] = Unit {0}
Apart (d ∷ ds) = (list_any (λ (x : PlainClass). alike d.details x.details) ds ≡ false) × Apart ds

none_same : (ds es : List Detail) (cs : List PlainClass) → alike ds es ≡ true
    → list_any (λ (x : PlainClass). alike es x.details) cs ≡ false
    → list_any (λ (x : PlainClass). alike ds x.details) cs ≡ false
none_same ds es [] same none = refl
none_same ds es (c ∷ cs) same none =
    neither _ _ (alike_laws.congr ds es c.details same ∙ (or_false (alike es c.details) _ none).0) (none_same ds es cs same (or_false (alike es c.details) _ none).1)

classed_joined_if : (b : Bool) (n : ℕ) (e : Finish) (d : PlainClass) (ds cs : List PlainClass) → alike e.details d.details ≡ b → list_any (λ (x : PlainClass). alike d.details x.details) ds ≡ false
    → classed n e (fold class_joined (class_joined cs d) ds) ≡ fold class_joined (class_joined cs d) (classed n e ds)
    → classed n e (fold class_joined (class_joined cs d) ds) ≡ fold class_joined cs (if b then grown_class d e ∷ ds else d ∷ classed n e ds)
classed_joined_if true n e d ds cs same none rest =
    crosses_all n e ds (class_joined cs d) (none_same e.details d.details ds same none) (joined_has e.details d cs same)
    ∙ ap (λ l. fold class_joined l ds) (joined_grown n e d cs same)
classed_joined_if false n e d ds cs same none rest = rest

-- one run more of the later part
classed_joined : (n : ℕ) (e : Finish) (ds cs : List PlainClass) → Apart ds → classed n e (fold class_joined cs ds) ≡ fold class_joined cs (classed n e ds)
classed_joined n e [] cs apart = sym (joined_first n e cs)
classed_joined n e (d ∷ ds) cs apart = classed_joined_if (alike e.details d.details) n e d ds cs refl apart.0 (classed_joined n e ds (class_joined cs d) apart.1)

none_classed_if : (b : Bool) (n : ℕ) (e : Finish) (ds : List Detail) (c : PlainClass) (cs : List PlainClass) → list_any (λ (x : PlainClass). alike ds x.details) (c ∷ cs) ≡ false
    → list_any (λ (x : PlainClass). alike ds x.details) (classed n e cs) ≡ false
    → list_any (λ (x : PlainClass). alike ds x.details) (if b then grown_class c e ∷ cs else c ∷ classed n e cs) ≡ false
none_classed_if true n e ds c cs none rest = none
none_classed_if false n e ds c cs none rest = neither _ _ (or_false (alike ds c.details) _ none).0 rest

none_classed : (n : ℕ) (e : Finish) (ds : List Detail) (cs : List PlainClass) → alike ds e.details ≡ false → list_any (λ (x : PlainClass). alike ds x.details) cs ≡ false
    → list_any (λ (x : PlainClass). alike ds x.details) (classed n e cs) ≡ false
none_classed n e ds [] other none = neither _ _ other refl
none_classed n e ds (c ∷ cs) other none =
    none_classed_if (alike e.details c.details) n e ds c cs none (none_classed n e ds cs other (or_false (alike ds c.details) _ none).1)

apart_if : (b : Bool) (n : ℕ) (e : Finish) (c : PlainClass) (cs : List PlainClass) → alike e.details c.details ≡ b → Apart (c ∷ cs) → Apart (classed n e cs)
    → Apart (if b then grown_class c e ∷ cs else c ∷ classed n e cs)
apart_if true n e c cs is apart rest = apart
apart_if false n e c cs is apart rest = (none_classed n e c.details cs (alike_laws.symm c.details e.details ∙ is) apart.0, rest)

apart_classed : (n : ℕ) (e : Finish) (cs : List PlainClass) → Apart cs → Apart (classed n e cs)
apart_classed n e [] apart = (refl, tt)
apart_classed n e (c ∷ cs) apart = apart_if (alike e.details c.details) n e c cs refl apart (apart_classed n e cs apart.1)

classed_all_joined : (n : ℕ) (ys : List Finish) (cs ds : List PlainClass) → Apart ds → classed_all n ys (fold class_joined cs ds) ≡ fold class_joined cs (classed_all n ys ds)
classed_all_joined n [] cs ds apart = refl
classed_all_joined n (y ∷ ys) cs ds apart =
    ap (classed_all (suc n) ys) (classed_joined n y ds cs apart) ∙ classed_all_joined (suc n) ys cs (classed n y ds) (apart_classed n y ds apart)

classed_append : (first : ℕ) (xs ys : List Finish) (n : ℕ) (cs : List PlainClass) → n ≡ first + length xs → classed_all first (xs ++ ys) cs ≡ classed_all n ys (classed_all first xs cs)
classed_append first [] ys n cs at = let here : first ≡ n = omega arith in ap (λ k. classed_all k ys cs) here
classed_append first (x ∷ xs) ys n cs at =
    let next : n ≡ suc first + length xs = omega arith in
    classed_append (suc first) xs ys n (classed first x cs) next

-- The classes of two parts are those of the runs of both.
pub merged_is : (first : ℕ) (xs ys : List Finish) (n : ℕ) → n ≡ first + length xs → classes_of first (xs ++ ys) ≡ classes_merged (classes_of first xs) (classes_of n ys)
merged_is first xs ys n at = classed_append first xs ys n [] at ∙ classed_all_joined n ys (classes_of first xs) [] tt
