-- One member of a choice is taken, and nacks fire outside their branches.
use Rattle.std.proofs.Common.{◌≡◌, ◌≢◌, ℕ, ◌+◌, nat_eq, cond, List, [], ◌∷◌, ◌++◌, Some, refl, ap, sym, ◌∙◌, arith, append_assoc}
use Rattle.std.specs.List.{flat_map}
use Rattle.std.proofs.lemmas.List.Sums.{sum_by-cons}
use Rattle.cml_value.specs.Value.{PlainBase}
use Rattle.cml_value.specs.Group.{PlainGroup, choose, PlainGroups, groups}
use Rattle.cml_scan.specs.World.{PlainWorld}
use Rattle.cml_book.specs.declared.command.Committed.{Committed}
use Rattle.cml_book.specs.Resumes.{PlainResume}
use Rattle.cml_book.specs.Sync.{times_named}
use Rattle.cml_book.proofs.NackLemmas.{times-append}
use Rattle.cml_rules.specs.Rules.{Sequel, branches, branches_of_all, Offers, itself, wrapped, branched, chosen, OffersOne, first, other, Synchronizes, alone, together}
use Rattle.cml_rules.specs.Firing.{AreTwoThreads, TakesOne, around, around_one, FiresOutside}
use Rattle.cml_rules.proofs.Committing.{meet_differ}

differ : {w w' : PlainWorld} {c : Committed} (d : Synchronizes w w' c) (partner : PlainResume) → c.partner ≡ Some partner → c.head.thread ≢ partner.thread
differ (alone t g b s v w' p d h) partner e = absurd (no_partner partner e)
  where
    no_partner : (r : PlainResume) → Rattle.std.specs.Prelude.None ≡ Some r → ⊥
    no_partner r e = cc
differ (together t u g h a b r s x y p q d e m) partner same = λ k. meet_differ m (k ∙ thread_is _ partner same)
  where
    some_is : (r s : PlainResume) → Some r ≡ Some s → s ≡ r
    some_is r s e = cc

    thread_is : (r s : PlainResume) → Some r ≡ Some s → s.thread ≡ r.thread
    thread_is r s e = ap (λ (z : PlainResume). z.thread) (some_is r s e)

pub two_threads : (w : PlainWorld) → AreTwoThreads w
two_threads w = λ s partner e. differ s.derivation partner e

-- the branches of a list of groups
branches_in : (gs : List PlainGroup) → branches_of_all (groups gs) ≡ flat_map branches gs
branches_in [] = refl
branches_in (g ∷ gs) = ap (λ ks. branches g ++ ks) (branches_in gs)

takes_one : (gs : List PlainGroup) (b : PlainBase) (s : Sequel) → OffersOne (groups gs) b s → TakesOne gs b s
takes_one [] b s d = elim d [ ]
takes_one (x ∷ gs) b s (first g hs b2 r d) =
    record { before = []; member = x; behind = gs; sequel = r; split = refl; offered = d; wraps = refl; fired = ap (λ ks. r.fired ++ ks) (branches_in gs) }
takes_one (x ∷ gs) b s (other g hs b2 r d) =
    let t = takes_one gs b2 r d in
    record {
      before = x ∷ t.before;
      member = t.member;
      behind = t.behind;
      sequel = t.sequel;
      split = ap (λ xs. x ∷ xs) t.split;
      offered = t.offered;
      wraps = t.wraps;
      fired = ap (λ ks. branches x ++ ks) t.fired ∙ sym (append_assoc (branches x) (flat_map branches t.before) (t.sequel.fired ++ flat_map branches t.behind));
    }

pub choice_takes_one : (gs : List PlainGroup) (b : PlainBase) (s : Sequel) → Offers (choose (groups gs)) b s → TakesOne gs b s
choice_takes_one gs b s (chosen hs b2 s2 d) = takes_one gs b s d

times-cons : (k j : ℕ) (ks : List ℕ) → times_named k (j ∷ ks) ≡ cond (nat_eq j k) 1 0 + times_named k ks
times-cons k j ks = sum_by-cons (λ x. cond (nat_eq x k) 1 0) j ks

mutual
  pub parts : (k : ℕ) {g : PlainGroup} {b : PlainBase} {s : Sequel} (d : Offers g b s) → times_named k s.fired + times_named k (around d) ≡ times_named k (branches g)
  parts k (itself b) = refl
  parts k (wrapped g f b s d) = parts k d
  parts k (branched j g b s d) = let a = times-cons k j (around d) in let c = times-cons k j (branches g) in let e = parts k d in omega arith
  parts k (chosen gs b s d) = parts_one k d

  parts_one : (k : ℕ) {gs : PlainGroups} {b : PlainBase} {s : Sequel} (d : OffersOne gs b s) → times_named k s.fired + times_named k (around_one d) ≡ times_named k (branches_of_all gs)
  parts_one k (first g gs b s d) = let a = times-append k s.fired (branches_of_all gs) in let c = times-append k (branches g) (branches_of_all gs) in let e = parts k d in omega arith
  parts_one k (other g gs b s d) = let a = times-append k (branches g) s.fired in let c = times-append k (branches g) (branches_of_all gs) in let e = parts_one k d in omega arith

pub fires_outside : (g : PlainGroup) → FiresOutside g
fires_outside g = λ o k. parts k o.derivation
